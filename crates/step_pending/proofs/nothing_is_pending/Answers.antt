use Rattle.step_pending.proofs.Cutting.{nothing-shown, nothing-sound}
use Rattle.step_pending.proofs.nothing_is_pending.Goals as goal

pub returns-clause-sound : goal.returns-clause-sound
returns-clause-sound c = nothing-sound

pub returns-clause-shows : goal.returns-clause-shows
returns-clause-shows c = nothing-shown
