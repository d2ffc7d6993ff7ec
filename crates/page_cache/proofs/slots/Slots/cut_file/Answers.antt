use Rattle.std.proofs.Common.{◌∙◌, min, ap, length, None, arith}
use Rattle.page_cache.specs.Bytes.{cut_page}
use Rattle.page_cache.proofs.Parts.{front, others}
use Rattle.page_cache.proofs.Changing.{changes-start, changes-on, sound-changed, changes-end, outside-cut}
use Rattle.page_cache.proofs.slots.Slots.cut_file.Goals as goal

pub loop-slot-init : goal.loop-slot-init
loop-slot-init c = changes-start c.args.file.now c.min-low.result None (λ index. cut_page index c.args.size) c.self.inside.places c.self.inside.pages c.slots_of-run.result.now

pub cut_at-requires : goal.cut_at-requires
cut_at-requires c =
    let low = c.slots_of-run.ensures.low_slots c.loop-slot.slot-index c.loop-slot-test.true in
    omega (arith, low, c.loop-slot.invariant.same, c.self.invariant.0.bytes)

pub loop-slot-preserved : goal.loop-slot-preserved
loop-slot-preserved c = rw c.cut_at.ensures (changes-on c.args.file.now c.min-low.result None (λ index. cut_page index c.args.size) c.self.inside.places c.self.inside.pages c.slots_of-run.result.now c.slots_of-run.ensures
    c.self.invariant.0.bytes c.loop-slot.slot-index c.loop-slot-test.true (front (others (others (others c.loop-slot.self-inside)))) c.loop-slot.invariant
    c.index_in-index.result c.index_in-index.ensures)

pub invariant_of-self : goal.invariant_of-self
invariant_of-self c = (
  sound-changed c.args.file.now c.min-low.result None (λ index. cut_page index c.args.size) c.self.inside.places c.self.inside.pages c.slots_of-run.result.now c.slots_of-run.ensures c.self.inside.order.entries
      c.loop-slot.slot-index (omega (arith, c.loop-slot-test.false)) (front (others (others (others c.loop-slot.self-inside)))) c.self.invariant.0 c.loop-slot.invariant
      (outside-cut c.args.file.now c.args.full_below c.self.inside.order.entries c.self.inside.places c.self.inside.pages c.self.invariant.0 (rw (← c.self.view_is) at c.requires)
      c.min-low.result c.args.size (c.min-low.ensures ∙ ap (min c.args.full_below) c.holding.ensures)),
  c.self.invariant.1,
)

pub returns : goal.returns
returns c = rw (← c.self.view_is)
    (ap (λ pages. record { room = length c.self.inside.places; pages = pages })
    (changes-end c.args.file.now c.min-low.result None (λ index. cut_page index c.args.size) c.self.inside.places c.self.inside.pages c.slots_of-run.result.now c.slots_of-run.ensures c.self.inside.order.entries
    c.loop-slot.slot-index (omega (arith, c.loop-slot-test.false)) (front (others (others (others c.loop-slot.self-inside)))) c.self.invariant.0 c.loop-slot.invariant
    (outside-cut c.args.file.now c.args.full_below c.self.inside.order.entries c.self.inside.places c.self.inside.pages c.self.invariant.0 (rw (← c.self.view_is) at c.requires)
    c.min-low.result c.args.size (c.min-low.ensures ∙ ap (min c.args.full_below) c.holding.ensures))))
