use Rattle.step_pending.proofs.Cutting.{given-leads, sound-given}
use Rattle.step_pending.proofs.bytes_are_given_up.Goals as goal

pub returns-clause-sound : goal.returns-clause-sound
returns-clause-sound c = sound-given

pub returns-clause-steps : goal.returns-clause-steps
returns-clause-steps c = given-leads
