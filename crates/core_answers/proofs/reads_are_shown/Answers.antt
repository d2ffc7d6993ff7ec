use Rattle.core_answers.proofs.pages.ReadsShown.{reads-shown}
use Rattle.core_answers.proofs.reads_are_shown.Goals as goal

pub returns : goal.returns
returns c = reads-shown
