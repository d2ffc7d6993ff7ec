use Rattle.std.proofs.Common.{sym, ◌∙◌}
use Rattle.dir_list.proofs.Takings.{taken_step, told_ok, told_fault, stuck_keeps, fault_told}
use Rattle.dir_list.proofs.listing.Listing.page.Goals as goal

pub returns-in-Ok-clause-ok : goal.returns-in-Ok-clause-ok
returns-in-Ok-clause-ok c = rw (← c.self.view_is) (told_ok _ _ (c.next_step.ensures ∙ sym (taken_step _ _ _ _ _ _ c.in-Ok.ensures.ok)))

pub returns-in-Ok-clause-fault : goal.returns-in-Ok-clause-fault
returns-in-Ok-clause-fault c = rw (← c.self.view_is) (told_fault _ _ (c.next_step.ensures ∙ sym (taken_step _ _ _ _ _ _ c.in-Ok.ensures.ok)))

pub returns-in-Ok-clause-kept : goal.returns-in-Ok-clause-kept
returns-in-Ok-clause-kept c = rw (← c.self.view_is) (stuck_keeps _ _ _ _ _ _ _ c.in-Ok.ensures.ok c.next_step.ensures)

pub returns-in-Err-clause-fault : goal.returns-in-Err-clause-fault
returns-in-Err-clause-fault c = rw (← c.self.view_is) (fault_told _ _ _ _ _ c.self.invariant c.in-Err.ensures.fault)
