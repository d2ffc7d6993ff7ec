use Rattle.std.proofs.Common.{refl, ap, sym, ◌∙◌, inl}
use Rattle.client_core.specs.View.{View, has_room}
use Rattle.client_core.specs.Steps.{moves_none}
use Rattle.client_core.proofs.Settling.{one-less, one-more, no-more, all-still}
use Rattle.client_core.proofs.work.Work.settle.Goals as goal

pub settling-init : goal.settling-init
settling-init c = (moves_none _ _ refl, c.requires.sound)

pub settling-smaller : goal.settling-smaller
settling-smaller c = one-less c.steps_hold.ensures _ _ _ c.if-not-stir_one.false (sym c.has_room.ensures ∙ c.settling-test.true) c.stir_one.ensures.sound c.stir_one.ensures.stirs

pub settling-preserved : goal.settling-preserved
settling-preserved c =
    (one-more _ _ _ _ c.if-not-stir_one.false (sym c.has_room.ensures ∙ c.settling-test.true) c.settling.invariant.0 c.stir_one.ensures.stirs, c.stir_one.ensures.sound)

pub returns-then-not-stir_one-clause-still : goal.returns-then-not-stir_one-clause-still
returns-then-not-stir_one-clause-still c = all-still _ _ _ c.if-not-stir_one.true c.stir_one.ensures.stirs
