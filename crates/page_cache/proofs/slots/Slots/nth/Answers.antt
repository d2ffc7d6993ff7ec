use Rattle.page_cache.proofs.Nth.{nth-none, nth-low, nth-free, nth-holds}
use Rattle.page_cache.proofs.slots.Slots.nth.Goals as goal

pub returns-in_err-slot : goal.returns-in_err-slot
returns-in_err-slot c = rw (← c.self.view_is, c.from_residual.ensures)
    (nth-none c.self.inside.order.entries c.self.inside.places c.self.inside.pages c.self.invariant.0 c.args.n c.in_err-slot.ensures)

pub at-requires : goal.at-requires
at-requires c = nth-low c.self.inside.order.entries c.self.inside.places c.self.inside.pages c.self.invariant.0 c.args.n c.in_ok-slot.slot c.in_ok-slot.ensures

pub returns-in_err-place : goal.returns-in_err-place
returns-in_err-place c = rw (← c.self.view_is, c.from_residual-in_err-place.ensures)
    (nth-free c.self.inside.order.entries c.self.inside.places c.self.inside.pages c.self.invariant.0 c.args.n c.in_ok-slot.slot c.in_ok-slot.ensures c.in_err-place.ensures)

pub returns : goal.returns
returns c =
    rw (← c.self.view_is)
    (nth-holds c.self.inside.order.entries c.self.inside.places c.self.inside.pages c.self.invariant.0 c.args.n c.in_ok-slot.slot c.in_ok-place.place c.bytes.result.now c.in_ok-slot.ensures c.in_ok-place.ensures c.bytes.ensures)
