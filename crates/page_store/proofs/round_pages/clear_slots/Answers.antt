use Rattle.std.proofs.Common.{◌<◌, length, arith}
use Rattle.std.proofs.lemmas.List.{get_or_default}
use Rattle.page_store.proofs.InMemory.{cleared-step}
use Rattle.page_store.proofs.round_pages.clear_slots.Goals as goal

pub loop-slot-preserved : goal.loop-slot-preserved
loop-slot-preserved c =
    let lt : c.loop-slot.slot-index < length c.args.slots.now = omega (arith, c.loop-slot-test.true) in
    cleared-step c.args.slots.now c.loop-slot.slot-index _ c.args.pages.now.items _ _ lt (get_or_default _ _ _ _ lt) c.loop-slot.invariant c.clear_one.ensures
