use Rattle.std.proofs.Common.{inr, refl}
use Rattle.script_runs.specs.Run.{cut_before}
use Rattle.script_runs.proofs.Runs.{alone_says, nothing_says}
use Rattle.script_runs.proofs.top.run_with.Goals as goal

pub returns-in_default-clause-shown : goal.returns-in_default-clause-shown
returns-in_default-clause-shown g c = nothing_says _ _ _ _ _ _ (cut_before (inr refl) refl)

pub returns-clause-shown : goal.returns-clause-shown
returns-clause-shown g c = alone_says _ _ _ _ _ _ _ _ _ _ c.in-Ok.ensures c.run_stocked-status.ensures.shown
