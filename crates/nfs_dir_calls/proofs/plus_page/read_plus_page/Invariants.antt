use Rattle.std.proofs.Common.{length}
use Rattle.nfs_dir_calls.specs.Pages.{Along}
use Rattle.nfs_dir_calls.specs.PlusPages.{plus_row_at}
use Rattle.nfs_dir_calls.proofs.plus_page.read_plus_page.Given as goal

abbrev pub invariant-loop-at : goal.invariant-loop-at
invariant-loop-at l = Along plus_row_at l.fn.r l.at

abbrev pub decreases-loop-at : goal.decreases-loop-at
decreases-loop-at l = length l.at
