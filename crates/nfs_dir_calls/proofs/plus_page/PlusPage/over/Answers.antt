use Rattle.xdr_codec.proofs.WholeLaws.{finds_whole, whole_codec}
use Rattle.nfs_dir_calls.proofs.Pages.{page_codec}
use Rattle.nfs_dir_calls.proofs.PlusPages.{plus_row_codec}
use Rattle.nfs_dir_calls.proofs.plus_page.PlusPage.over.Goals as goal

pub returns-clause-spelled : goal.returns-clause-spelled
returns-clause-spelled c = finds_whole (λ p. p) _ _ (whole_codec (page_codec plus_row_codec)) (rw c.new.ensures at c.holds_bytes.ensures) c.page_of.ensures
