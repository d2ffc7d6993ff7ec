use Rattle.std.proofs.Common.{ap, length, arith}
use Rattle.std.proofs.lemmas.List.{length-map}
use Rattle.page_cache.specs.Sorted.{freed}
use Rattle.page_cache.proofs.Parts.{front, others}
use Rattle.page_cache.proofs.Dropping.{drops-start, drops-step, sound-dropped, drops-end}
use Rattle.page_cache.proofs.slots.Slots.drop_file.Goals as goal

pub loop-slot-init : goal.loop-slot-init
loop-slot-init c = drops-start _ c.args.file.now c.self.inside.places c.self.inside.pages c.slots_of-run.result.now c.self.inside.order.entries c.self.invariant.0

pub loop-slot-preserved : goal.loop-slot-preserved
loop-slot-preserved c = rw c.demote.ensures.entries
    (drops-step _ c.args.file.now c.self.inside.places c.self.inside.pages c.slots_of-run.result.now c.slots_of-run.ensures c.self.inside.order.entries (front (others c.loop-slot.self-inside)).entries
    c.loop-slot.slot-index c.loop-slot-test.true c.loop-slot.invariant)

pub invariant_of-self : goal.invariant_of-self
invariant_of-self c = rw (c.free_file.ensures, length-map c.self.inside.places (freed c.args.file.now)) (
  (sound-dropped _ c.args.file.now c.self.inside.places c.self.inside.pages c.slots_of-run.result.now c.slots_of-run.ensures c.self.invariant.0.holders c.self.inside.order.entries
      (front (others c.loop-slot.self-inside)).entries c.loop-slot.slot-index (omega (arith, c.loop-slot-test.false)) c.loop-slot.invariant),
  c.self.invariant.1,
)

pub returns : goal.returns
returns c = rw (c.free_file.ensures, ← c.self.view_is, length-map c.self.inside.places (freed c.args.file.now))
    (ap (λ pages. record { room = length c.self.inside.places; pages = pages })
    (drops-end _ c.args.file.now c.self.inside.places c.self.inside.pages c.slots_of-run.result.now c.slots_of-run.ensures c.self.invariant.0.holders c.self.inside.order.entries
    (front (others c.loop-slot.self-inside)).entries c.loop-slot.slot-index (omega (arith, c.loop-slot-test.false)) c.loop-slot.invariant))
