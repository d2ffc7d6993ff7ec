use Rattle.std.proofs.Common.{◌≡◌, ℕ, List, Option, Result, Ok, Err, IfOk, sym, subst}
use Rattle.outside.specs.Clock.{ReadsClock}
use Rattle.lane_session.proofs.lines.note_beginning.Goals as goal

reads-as : {E : Type 0} (r0 r1 : Option (List ℕ)) (ms : ℕ) (result : Result ℕ E) → IfOk result (λ now. now ≡ ms) → ReadsClock r0 r1 ms → IfOk result (ReadsClock r0 r1)
reads-as r0 r1 ms (Ok now) is read = subst (ReadsClock r0 r1) (sym is) read
reads-as r0 r1 ms (Err e) is read = tt

pub returns-clause-goes : goal.returns-clause-goes
returns-clause-goes g c = record { ms = c.now-ms.result; reads = c.now-ms.ensures; is = c.note_start.ensures.goes }

pub returns-clause-reading : goal.returns-clause-reading
returns-clause-reading g c = reads-as _ _ c.now-ms.result c.note_start.result c.note_start.ensures.is c.now-ms.ensures
