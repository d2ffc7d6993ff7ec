use Rattle.std.proofs.Common.{true}
use Rattle.world_link.specs.Fates.{FateView}
use Rattle.world_link.proofs.FateMap.{redestined}
use Rattle.world_link.proofs.plan.Plan.lose.Goals as goal

pub returns : goal.returns
returns c = redestined _ _ _ _ c.args.sending _ _ (λ (f : FateView). record f { lost = true }) c.take-fate.ensures.taken c.take-fate.ensures.left c.lose.ensures c.put.ensures
