use Rattle.std.proofs.Common.{Some}
use Rattle.world_link.specs.Fates.{FateView}
use Rattle.world_link.proofs.FateMap.{redestined}
use Rattle.world_link.proofs.plan.Plan.partial.Goals as goal

pub returns : goal.returns
returns c = redestined _ _ _ _ c.args.sending _ _ (λ (f : FateView). record f { partial = Some c.args.part }) c.take-fate.ensures.taken c.take-fate.ensures.left c.set_partial.ensures c.put.ensures
