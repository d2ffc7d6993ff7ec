use Rattle.std.proofs.Common.{ap, Some}
use Rattle.world_link.specs.declared.directive.RequestId.{RequestId}
use Rattle.world_link.specs.Fates.{FateView}
use Rattle.world_link.specs.Shown.{shown}
use Rattle.world_link.proofs.FateMap.{moved}
use Rattle.world_link.proofs.plan.Plan.put.Goals as goal

pub returns : goal.returns
returns c = ap (λ (f : RequestId → FateView). record (shown c.args.self.now) { fate = f }) (moved c.args.self.now.fates c.insert.new.self c.args.sending (Some c.args.fate) c.in_ok-insert.ensures.updates)
