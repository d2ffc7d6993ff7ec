use Rattle.step_saves.proofs.Staying.{clear-shown}
use Rattle.step_saves.proofs.a_saved_file_is_clear.Goals as goal

pub returns : goal.returns
returns c = clear-shown
