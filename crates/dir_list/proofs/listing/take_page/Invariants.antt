use Rattle.std.proofs.Common.{length}
use Rattle.dir_list.specs.Taking.{Taking}
use Rattle.dir_list.proofs.listing.take_page.Given as goal

abbrev pub invariant-loop-entry : goal.invariant-loop-entry
invariant-loop-entry l = Taking l.fn.names.items l.fn.page l.names.items l.last l.page

abbrev pub decreases-loop-entry : goal.decreases-loop-entry
decreases-loop-entry l = length l.page
