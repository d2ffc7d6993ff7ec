use Rattle.std.proofs.Common.{arith}
use Rattle.page_cache.proofs.SortedSlots.{sorted-without}
use Rattle.page_cache.proofs.sorted.free_slot.Goals as goal

pub remove-requires : goal.remove-requires
remove-requires c = let within = rw c.deref-2.ensures.value at c.place_of-at.ensures.within in omega (arith, within, c.args.sorted.now.ok.0)

pub returns-clause-sorted : goal.returns-clause-sorted
returns-clause-sorted c =
    let within = rw c.deref-2.ensures.value at c.place_of-at.ensures.within in
    let there = rw c.deref-2.ensures.value at c.place_of-at.ensures.there in
    rw c.remove.ensures.items (sorted-without c.args.by_slot.now.items c.args.sorted.now.items c.requires.sorted c.place_of-at.result c.args.slot within there)
