use Rattle.std.proofs.Common.{length}
use Rattle.nfs_dir_calls.specs.Pages.{Copied}
use Rattle.nfs_dir_calls.proofs.plus_page.PlusPage.rows.Given as goal

abbrev pub invariant-loop-entry : goal.invariant-loop-entry
invariant-loop-entry l = Copied l.self l.rows.items l.left

abbrev pub decreases-loop-entry : goal.decreases-loop-entry
decreases-loop-entry l = length l.left
