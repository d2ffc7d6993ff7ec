use Rattle.std.proofs.Common.{ℕ, Bool, ap}
use Rattle.world_link.specs.Shown.{shown}
use Rattle.world_link.proofs.FateMap.{failing}
use Rattle.world_link.proofs.plan.Plan.fail.Goals as goal

pub returns : goal.returns
returns c = ap (λ (f : ℕ → Bool). record (shown c.args.self.now) { fails = f }) (failing c.args.self.now.failing c.insert.new.self c.args.dial c.in_ok-insert.ensures.updates)
