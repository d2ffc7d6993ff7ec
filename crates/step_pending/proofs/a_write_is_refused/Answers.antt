use Rattle.step_pending.proofs.Replied.{refused-leads, sound-refused}
use Rattle.step_pending.proofs.a_write_is_refused.Goals as goal

pub returns-clause-sound : goal.returns-clause-sound
returns-clause-sound c = sound-refused

pub returns-clause-steps : goal.returns-clause-steps
returns-clause-steps c = refused-leads
