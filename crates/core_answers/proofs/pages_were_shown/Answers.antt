use Rattle.core_answers.proofs.pages.PagesShown.{pages-shown}
use Rattle.core_answers.proofs.pages_were_shown.Goals as goal

pub returns : goal.returns
returns c = pages-shown
