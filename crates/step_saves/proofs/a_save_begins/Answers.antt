use Rattle.step_saves.proofs.Going.{begins}
use Rattle.step_saves.proofs.a_save_begins.Goals as goal

pub returns : goal.returns
returns c = begins
