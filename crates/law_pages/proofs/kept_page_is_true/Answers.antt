use Rattle.law_pages.proofs.TruePages.{true_page}
use Rattle.law_pages.proofs.kept_page_is_true.Goals as goal

pub returns : goal.returns
returns c = true_page
