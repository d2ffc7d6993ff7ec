use Rattle.std.proofs.Common.{◌<◌, length, arith, replicate, None}
use Rattle.std.proofs.lemmas.List.{get_or_default}
use Rattle.page_store.proofs.InMemory.{taken-step}
use Rattle.page_store.proofs.round_pages.round_of.Goals as goal

pub loop-slot-preserved : goal.loop-slot-preserved
loop-slot-preserved c =
    let lt : c.loop-slot.slot-index < length c.args.slots.now = omega (arith, c.loop-slot-test.true) in
    taken-step c.args.slots.now c.loop-slot.slot-index _ (replicate (length c.args.pages.now) None) _ _ lt (get_or_default _ _ _ _ lt) c.loop-slot.invariant c.take_in.ensures
