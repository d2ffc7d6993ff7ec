use Rattle.export_serve.proofs.AskedLaws.{sound_ok, served_ok, version_refused, head_call}
use Rattle.export_serve.proofs.asking.asked.Goals as goal

pub returns-in-Ok-clause-sound : goal.returns-in-Ok-clause-sound
returns-in-Ok-clause-sound c = sound_ok _ _ _ _ c.in-Ok.ensures.spelled.found c.head_asks.ensures.sound

pub returns-in-Ok-clause-served : goal.returns-in-Ok-clause-served
returns-in-Ok-clause-served c = λ xid call s. served_ok _ _ xid call _ _ s (c.in-Ok.ensures.spelled.only _ _ s.head).0 c.head_asks.ensures.served

pub returns-in-Version-clause-served : goal.returns-in-Version-clause-served
returns-in-Version-clause-served c = λ xid call s. let e = (c.in-Err.ensures.spelled.only _ _ s.head).1 in absurd cc

pub returns-in-NotCall-clause-served : goal.returns-in-NotCall-clause-served
returns-in-NotCall-clause-served c = λ xid call s. let e = (c.in-Err.ensures.spelled.only _ _ s.head).1 in absurd cc

pub returns-in-Xdr-clause-served : goal.returns-in-Xdr-clause-served
returns-in-Xdr-clause-served c = λ xid call s. let e = (c.in-Err.ensures.spelled.only _ _ s.head).1 in absurd cc

pub returns-in-Ok-clause-no_call : goal.returns-in-Ok-clause-no_call
returns-in-Ok-clause-no_call c = head_call _ _ _ _ c.head_asks.ensures.sound

pub returns-in-Version-clause-no_call : goal.returns-in-Version-clause-no_call
returns-in-Version-clause-no_call c = version_refused _ c.args.rec.now _ (rw c.in-Version.is at c.in-Err.ensures.exact) c.mismatch.ensures.exact
