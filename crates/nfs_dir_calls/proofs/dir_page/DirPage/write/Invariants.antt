use Rattle.std.proofs.Common.{length}
use Rattle.nfs_dir_calls.specs.Pages.{Writing}
use Rattle.nfs_dir_calls.specs.DirPages.{dir_row_bytes, SpellsDirRow}
use Rattle.nfs_dir_calls.proofs.dir_page.DirPage.write.Given as goal

abbrev pub invariant-loop-entry : goal.invariant-loop-entry
invariant-loop-entry l = Writing dir_row_bytes SpellsDirRow l.self l.left l.fn.w l.w

abbrev pub decreases-loop-entry : goal.decreases-loop-entry
decreases-loop-entry l = length l.left
