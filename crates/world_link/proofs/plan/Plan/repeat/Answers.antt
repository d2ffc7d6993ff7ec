use Rattle.std.proofs.Common.{◌++◌, ◌∷◌, []}
use Rattle.world_link.specs.Fates.{FateView}
use Rattle.world_link.proofs.FateMap.{redestined}
use Rattle.world_link.proofs.plan.Plan.repeat.Goals as goal

pub returns : goal.returns
returns c = redestined _ _ _ _ c.args.turn _ _ (λ (f : FateView). record f { late = f.late ++ c.args.sending ∷ [] }) c.take-fate.ensures.taken c.take-fate.ensures.left c.in_ok-add_late.ensures c.put.ensures
