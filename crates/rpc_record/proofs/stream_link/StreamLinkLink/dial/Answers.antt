use Rattle.rpc_record.proofs.LineSteps.{dial_step, dial_failed}
use Rattle.rpc_record.proofs.stream_link.StreamLinkLink.dial.Goals as goal

pub invariant_of-self : goal.invariant_of-self
invariant_of-self g c = rw (c.clear.ensures) (dial_step _ _ _ _ _ c.self.invariant c.in-Ok.ensures.now).follows

pub invariant_of-self-in-Err-Failed : goal.invariant_of-self-in-Err-Failed
invariant_of-self-in-Err-Failed g c = rw (c.clear-in-Err-Failed.ensures) (dial_failed _ _ _ _ _ c.self.invariant (rw c.in-Err-Failed.field-0-is at c.in-Err-Failed.ensures.now)).follows

pub returns-in-Ok-clause-told : goal.returns-in-Ok-clause-told
returns-in-Ok-clause-told g c = rw (← c.self.view_is) (dial_step _ _ _ _ _ c.self.invariant c.in-Ok.ensures.now).tells

pub returns-in-Err-Failed-clause-told : goal.returns-in-Err-Failed-clause-told
returns-in-Err-Failed-clause-told g c = rw (← c.self.view_is) (dial_failed _ _ _ _ _ c.self.invariant (rw c.in-Err-Failed.field-0-is at c.in-Err-Failed.ensures.now)).tells
