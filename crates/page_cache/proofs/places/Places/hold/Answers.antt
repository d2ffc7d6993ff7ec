use Rattle.std.proofs.Common.{Some, None, get_or, set, sym, ap, ◌∙◌, arith}
use Rattle.std.proofs.lemmas.List.{length-set, set-get_or}
use Rattle.page_cache.proofs.Shown.{held-place}
use Rattle.page_cache.proofs.SortedSlots.{alone-freed, set-twice}
use Rattle.page_cache.proofs.places.Places.hold.Goals as goal

pub give_slot-at-requires-clause-sorted : goal.give_slot-at-requires-clause-sorted
give_slot-at-requires-clause-sorted c = rw c.free_slot-left.ensures.sorted.slots c.free_slot-left.ensures.sorted

pub give_slot-at-requires-clause-alone : goal.give_slot-at-requires-clause-alone
give_slot-at-requires-clause-alone c = rw (c.free_slot-left.ensures.held, length-set c.self.inside.by_slot.items c.args.slot None)
    (alone-freed c.self.inside.by_slot.items c.args.slot c.args.place (rw (← c.self.view_is) at c.requires.low) (rw (← c.self.view_is) at c.requires.alone))

pub returns : goal.returns
returns c = rw (c.give_slot-at.ensures.held, c.free_slot-left.ensures.held, ← c.self.view_is) (set-twice c.self.inside.by_slot.items c.args.slot None (Some c.args.place))

-- the slot holds the page already
pub returns-then-holds : goal.returns-then-holds
returns-then-holds c =
    let held = c.self.inside.by_slot.items in
    let is = held-place c.args.place (get_or held c.args.slot None) (rw c.deref.ensures.value at (sym c.holds.ensures ∙ c.if-holds.true)) in
    rw (← c.self.view_is) (sym (ap (set held c.args.slot) (sym is) ∙ set-get_or held c.args.slot None))

pub invariant_of-self : goal.invariant_of-self
invariant_of-self c =
    let before = c.free_slot-left.ensures.sorted.slots in
    let after = c.give_slot-at.ensures.sorted.slots in
    rw after (c.give_slot-at.ensures.sorted, c.give_slot-at.ensures.room, omega (arith, before, c.self.invariant.2))
