use Rattle.std.proofs.Common.{◌<◌, ◌∙◌, length, Some, ap, sym, arith}
use Rattle.page_cache.proofs.InSlot.{in-shown}
use Rattle.page_cache.proofs.slots.Slots.in_slot.Goals as goal

pub returns : goal.returns
returns c =
    let count = c.self.invariant.0.bytes in
    let low : c.args.slot < length c.self.inside.places = omega (arith, c.if-slot-len.false, c.len.ensures, count) in
    let it = in-shown c.self.inside.places c.self.inside.pages c.args.slot c.in_ok-place.place (sym c.in_ok-place.ensures) c.self.inside.order.entries (c.self.invariant.0.every c.args.slot low) in
    rw (← c.self.view_is) (it.0, it.1 ∙ ap (λ b. Some (c.in_ok-place.place, b)) (sym c.bytes.ensures))
