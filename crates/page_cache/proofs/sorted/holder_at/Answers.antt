use Rattle.std.proofs.Common.{refl, rules}
use Rattle.page_cache.proofs.SortedSlots.{find-past, find-other}
use Rattle.page_cache.proofs.sorted.holder_at.Goals as goal

pub returns-in_err-slot : goal.returns-in_err-slot
returns-in_err-slot c = rw c.from_residual.ensures
    (find-past c.args.by_slot.now c.args.by_slot.now c.args.sorted.now c.args.sorted.now c.requires.sorted refl refl
    c.args.by_slot.now refl c.args.file.now c.args.index c.args.at c.requires.gap c.in_err-slot.ensures.lookup.3)

pub returns-else-holds : goal.returns-else-holds
returns-else-holds c =
    find-other c.args.by_slot.now c.args.by_slot.now c.args.sorted.now c.args.sorted.now c.requires.sorted refl refl
    c.args.by_slot.now refl c.args.file.now c.args.index c.args.at c.requires.gap
    c.in_ok-slot.field-0.now c.in_ok-slot.ensures.lookup.3.0 c.in_ok-slot.ensures.lookup.1 (search rules)
