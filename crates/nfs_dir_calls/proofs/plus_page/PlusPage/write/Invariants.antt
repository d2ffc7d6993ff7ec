use Rattle.std.proofs.Common.{length}
use Rattle.nfs_dir_calls.specs.Pages.{Writing}
use Rattle.nfs_dir_calls.specs.PlusPages.{plus_row_bytes, SpellsPlusRow}
use Rattle.nfs_dir_calls.proofs.plus_page.PlusPage.write.Given as goal

abbrev pub invariant-loop-entry : goal.invariant-loop-entry
invariant-loop-entry l = Writing plus_row_bytes SpellsPlusRow l.self l.left l.fn.w l.w

abbrev pub decreases-loop-entry : goal.decreases-loop-entry
decreases-loop-entry l = length l.left
