use Rattle.std.proofs.Common.{◌++◌, ◌∷◌, []}
use Rattle.world_link.specs.Fates.{FateView}
use Rattle.world_link.proofs.FateMap.{redestined}
use Rattle.world_link.proofs.plan.Plan.hold.Goals as goal

pub returns : goal.returns
returns c = redestined _ _ _ _ c.args.sending _ _ (λ (f : FateView). record f { held = f.held ++ c.args.turn ∷ [] }) c.take-fate.ensures.taken c.take-fate.ensures.left c.in_ok-add_held.ensures c.put.ensures
