use Rattle.step_pending.proofs.Replied.{returned-leads, sound-returned}
use Rattle.step_pending.proofs.a_write_returns.Goals as goal

pub returns-clause-sound : goal.returns-clause-sound
returns-clause-sound c = sound-returned

pub returns-clause-steps : goal.returns-clause-steps
returns-clause-steps c = returned-leads
