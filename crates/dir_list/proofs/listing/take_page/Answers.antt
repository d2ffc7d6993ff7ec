use Rattle.dir_list.proofs.Takings.{at_start, after_row, fault_found}
use Rattle.dir_list.proofs.listing.take_page.Goals as goal

pub loop-entry-init : goal.loop-entry-init
loop-entry-init c = at_start _ _ c.requires

pub loop-entry-preserved : goal.loop-entry-preserved
loop-entry-preserved c = after_row _ _ _ _ _ _ _ (rw c.in-Some.ensures.0 at c.loop-entry.invariant) c.in-Ok.ensures.ok c.in-Ok.ensures.bound

pub returns-in-Err-clause-fault : goal.returns-in-Err-clause-fault
returns-in-Err-clause-fault c = fault_found _ _ _ _ _ _ _ (rw c.in-Some.ensures.0 at c.loop-entry.invariant) c.in-Err.ensures.fault
