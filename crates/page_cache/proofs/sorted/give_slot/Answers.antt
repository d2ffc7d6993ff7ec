use Rattle.std.proofs.Common.{Some, set, refl, arith}
use Rattle.std.proofs.lemmas.List.Edits.{length-insert}
use Rattle.std.specs.List.{insert}
use Rattle.page_cache.proofs.SortedSlots.{sorted-with, at-most}
use Rattle.page_cache.proofs.sorted.give_slot.Goals as goal

pub insert-requires : goal.insert-requires
insert-requires c = omega (arith, c.count_near-at.ensures.inside, c.deref-2.ensures.len)

pub returns-clause-sorted : goal.returns-clause-sorted
returns-clause-sorted c =
    let held = c.args.by_slot.now.items in
    let sorted = c.args.sorted.now.items in
    let at = c.count_near-at.result in
    let gap = rw (c.deref.ensures.value, c.deref-2.ensures.value) at c.count_near-at.ensures in
    let after = sorted-with held sorted c.requires.sorted at c.args.slot c.args.place c.requires.low c.requires.free gap c.requires.alone in
    let most = at-most (set held c.args.slot (Some c.args.place)) (insert sorted at c.args.slot) after in
    let ok = c.insert.ensures.succeeds (omega (arith, most, length-insert sorted at c.args.slot gap.inside, c.args.sorted.now.ok.0, c.requires.room)) in
    let is = rw ok at c.insert.ensures.items in
    rw is after

pub returns-clause-held : goal.returns-clause-held
returns-clause-held c = refl

pub returns-clause-room : goal.returns-clause-room
returns-clause-room c = omega (arith, c.insert.ensures.capacity, c.requires.room)
