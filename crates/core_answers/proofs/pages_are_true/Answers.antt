use Rattle.core_answers.proofs.pages.PagesTrue.{pages-true}
use Rattle.core_answers.proofs.pages_are_true.Goals as goal

pub returns : goal.returns
returns c = pages-true
