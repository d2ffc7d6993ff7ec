use Rattle.std.proofs.Common.{◌∙◌, Some, length, ap, refl}
use Rattle.page_cache.proofs.Showing.{promoted-none, lookup-none, sound-promoted, shown-promoted, lookup-shown}
use Rattle.page_cache.proofs.slots.Slots.show.Goals as goal

pub returns-in_err-slot : goal.returns-in_err-slot
returns-in_err-slot c = rw (c.in_err-slot.ensures.same, ← c.self.view_is, c.from_residual.ensures) (
  (refl, (λ _. tt), ap (λ pages. record { room = length c.self.inside.places; pages = pages }) (promoted-none c.self.inside.order.entries c.self.inside.places c.self.inside.pages c.self.invariant.0 c.args.file.now c.args.index c.in_err-slot.ensures.found)),
  record { ends = tt; gives = lookup-none c.self.inside.order.entries c.self.inside.places c.self.inside.pages c.self.invariant.0 c.args.file.now c.args.index c.in_err-slot.ensures.found },
)

pub invariant_of-self-2 : goal.invariant_of-self-2
invariant_of-self-2 c = rw (c.in_ok-slot.ensures.same, c.promote.ensures.entries)
    ((sound-promoted c.self.inside.order.entries c.self.inside.places c.self.inside.pages c.self.invariant.0 c.args.file.now c.args.index c.in_ok-slot.slot c.in_ok-slot.ensures.found.0 c.in_ok-slot.ensures.found.1), c.self.invariant.1)

pub returns : goal.returns
returns c =
    let low = c.in_ok-slot.ensures.found.0 in
    rw (c.in_ok-slot.ensures.same, ← c.self.view_is, c.promote.ensures.entries) (
      (refl, (λ _. tt), ap (λ pages. record { room = length c.self.inside.places; pages = pages }) (shown-promoted c.self.inside.order.entries c.self.inside.places c.self.inside.pages c.self.invariant.0 c.args.file.now c.args.index c.in_ok-slot.slot low c.in_ok-slot.ensures.found.1)),
      record { ends = tt; gives = ap Some c.bytes.ensures ∙ lookup-shown c.self.inside.order.entries c.self.inside.places c.self.inside.pages c.self.invariant.0 c.args.file.now c.args.index c.in_ok-slot.slot low c.in_ok-slot.ensures.found.1 },
    )
