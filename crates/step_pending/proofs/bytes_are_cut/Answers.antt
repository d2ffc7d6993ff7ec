use Rattle.step_pending.proofs.Cutting.{cut-leads, cut-sound}
use Rattle.step_pending.proofs.bytes_are_cut.Goals as goal

pub returns-clause-sound : goal.returns-clause-sound
returns-clause-sound c = cut-sound

pub returns-clause-steps : goal.returns-clause-steps
returns-clause-steps c = cut-leads
