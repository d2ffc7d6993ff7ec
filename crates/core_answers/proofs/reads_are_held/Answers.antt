use Rattle.core_answers.proofs.pages.ReadsHeld.{reads-held}
use Rattle.core_answers.proofs.reads_are_held.Goals as goal

pub returns : goal.returns
returns c = reads-held
