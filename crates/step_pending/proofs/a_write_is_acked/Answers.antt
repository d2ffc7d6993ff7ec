use Rattle.step_pending.proofs.Replied.{acked-leads, sound-acked}
use Rattle.step_pending.proofs.a_write_is_acked.Goals as goal

pub returns-clause-sound : goal.returns-clause-sound
returns-clause-sound c = sound-acked

pub returns-clause-steps : goal.returns-clause-steps
returns-clause-steps c = acked-leads
