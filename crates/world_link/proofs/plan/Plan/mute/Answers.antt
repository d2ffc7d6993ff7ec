use Rattle.std.proofs.Common.{true}
use Rattle.world_link.specs.Fates.{FateView}
use Rattle.world_link.proofs.FateMap.{redestined}
use Rattle.world_link.proofs.plan.Plan.mute.Goals as goal

pub returns : goal.returns
returns c = redestined _ _ _ _ c.args.sending _ _ (λ (f : FateView). record f { muted = true }) c.take-fate.ensures.taken c.take-fate.ensures.left c.mute.ensures c.put.ensures
