use Rattle.std.proofs.Common.{ap, None}
use Rattle.world_link.specs.declared.directive.RequestId.{RequestId}
use Rattle.world_link.specs.Fates.{FateView}
use Rattle.world_link.specs.Shown.{shown}
use Rattle.world_link.proofs.FateMap.{moved}
use Rattle.world_link.proofs.plan.Plan.take.Goals as goal

pub returns-in-Some-clause-left : goal.returns-in-Some-clause-left
returns-in-Some-clause-left c = ap (λ (f : RequestId → FateView). record (shown c.args.self.now) { fate = f }) (moved c.args.self.now.fates c.remove.new.self c.args.sending.now None c.remove.ensures.updates)

pub returns-in-None-clause-left : goal.returns-in-None-clause-left
returns-in-None-clause-left c = ap (λ (f : RequestId → FateView). record (shown c.args.self.now) { fate = f }) (moved c.args.self.now.fates c.remove.new.self c.args.sending.now None c.remove.ensures.updates)
