use Rattle.copy_plan.proofs.Trees.{files-are-asked}
use Rattle.copy_plan.proofs.whole.files_are_asked.Goals as goal

pub returns : goal.returns
returns c = files-are-asked
