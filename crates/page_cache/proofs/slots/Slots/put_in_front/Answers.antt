use Rattle.std.proofs.Common.{ap, length, Some, arith}
use Rattle.std.proofs.lemmas.List.{length-set}
use Rattle.page_cache.proofs.Sound.{chosen-low, chosen-alone, sound-put, shown-put}
use Rattle.page_cache.proofs.slots.Slots.put_in_front.Goals as goal

pub slot_for-slot-requires : goal.slot_for-slot-requires
slot_for-slot-requires c = omega (arith, c.self.invariant.0.all, c.self.invariant.1)

pub hold-requires-clause-low : goal.hold-requires-clause-low
hold-requires-clause-low c = rw c.slot_for-slot.ensures.same
    (chosen-low c.self.inside.order.entries c.self.inside.places c.self.inside.pages c.args.place c.args.bytes.now c.slot_for-slot.result _ c.self.invariant.1 c.self.invariant.0 c.slot_for-slot.ensures.chosen)

pub hold-requires-clause-alone : goal.hold-requires-clause-alone
hold-requires-clause-alone c = rw c.slot_for-slot.ensures.same
    (chosen-alone c.self.inside.order.entries c.self.inside.places c.self.inside.pages c.args.place c.args.bytes.now c.slot_for-slot.result _ c.self.invariant.1 c.self.invariant.0 c.slot_for-slot.ensures.chosen)

pub put-requires-clause-there : goal.put-requires-clause-there
put-requires-clause-there c =
    let low = chosen-low c.self.inside.order.entries c.self.inside.places c.self.inside.pages c.args.place c.args.bytes.now c.slot_for-slot.result _ c.self.invariant.1 c.self.invariant.0 c.slot_for-slot.ensures.chosen in
    omega (arith, low, c.self.invariant.0.bytes)

pub invariant_of-self : goal.invariant_of-self
invariant_of-self c = rw (c.promote.ensures.entries, c.hold.ensures, c.slot_for-slot.ensures.same, c.put.ensures, length-set c.self.inside.places c.slot_for-slot.result (Some c.args.place))
    ((sound-put c.self.inside.order.entries c.self.inside.places c.self.inside.pages c.args.place c.args.bytes.now c.slot_for-slot.result _ c.self.invariant.1 c.self.invariant.0 c.slot_for-slot.ensures.chosen), c.self.invariant.1)

pub returns : goal.returns
returns c = rw (c.promote.ensures.entries, c.hold.ensures, c.slot_for-slot.ensures.same, c.put.ensures, ← c.self.view_is, length-set c.self.inside.places c.slot_for-slot.result (Some c.args.place))
    (ap (λ pages. record { room = length c.self.inside.places; pages = pages })
    (shown-put c.self.inside.order.entries c.self.inside.places c.self.inside.pages c.args.place c.args.bytes.now c.slot_for-slot.result _ c.self.invariant.1 c.self.invariant.0 c.slot_for-slot.ensures.chosen))
