use Rattle.std.proofs.Common.{◌++◌, ◌∷◌, []}
use Rattle.world_link.specs.Fates.{FateView}
use Rattle.world_link.proofs.FateMap.{redestined}
use Rattle.world_link.proofs.plan.Plan.after.Goals as goal

pub returns : goal.returns
returns c = redestined _ _ _ _ c.args.sending _ _ (λ (f : FateView). record f { after = f.after ++ c.args.event ∷ [] }) c.take-fate.ensures.taken c.take-fate.ensures.left c.in_ok-add_after.ensures c.put.ensures
