use Rattle.std.proofs.Common.{◌≡◌, subst, arith, rules}
use Rattle.page_cache.specs.Slots.{AreAll}
use Rattle.page_cache.proofs.Fresh.{none-yet, one-more}
use Rattle.page_cache.proofs.slots.all_slots.Goals as goal

pub loop-slot-init : goal.loop-slot-init
loop-slot-init c = ((search rules), rw c.in_ok-order.ensures none-yet)

pub loop-slot-preserved : goal.loop-slot-preserved
loop-slot-preserved c = rw c.in_ok-put.ensures.entries
    (c.loop-slot.invariant.0, one-more c.loop-slot.slot c.loop-slot.order tt c.loop-slot.invariant.0 c.loop-slot-test.true c.loop-slot.invariant.1)

pub returns : goal.returns
returns c =
    let whole : c.loop-slot.slot ≡ c.args.count = omega (arith, c.loop-slot-test.false, c.loop-slot.auto.slot-end) in
    subst (λ n. AreAll n c.loop-slot.order.entries) whole c.loop-slot.invariant.1
