use Rattle.batch_runs.proofs.Tops.{ended-says, ends-most, never-four, never-two, stop-five, stop-four, stop-most, stop-two}
use Rattle.std.proofs.Common.{ap, Ok, ℕ}
use Rattle.batch_runs.proofs.top.run_with.Goals as goal

pub returns-in-Ok-clause-statuses : goal.returns-in-Ok-clause-statuses
returns-in-Ok-clause-statuses g c = ends-most c.in-Ok.status c.in-Ok.ensures.statuses

pub returns-in-Ok-clause-taken : goal.returns-in-Ok-clause-taken
returns-in-Ok-clause-taken g c = never-two c.in-Ok.status c.in-Ok.ensures.statuses

pub returns-in-Ok-clause-source : goal.returns-in-Ok-clause-source
returns-in-Ok-clause-source g c = never-four c.in-Ok.status _ c.in-Ok.ensures.statuses

pub returns-in-Ok-clause-sink : goal.returns-in-Ok-clause-sink
returns-in-Ok-clause-sink g c = λ five. c.in-Ok.ensures.sink (ap (λ (n : ℕ). Ok n) five)

pub returns-in-Err-clause-statuses : goal.returns-in-Err-clause-statuses
returns-in-Err-clause-statuses g c = stop-most c.in-Err.stop c.status.result c.status.ensures

pub returns-in-Err-clause-taken : goal.returns-in-Err-clause-taken
returns-in-Err-clause-taken g c = stop-two c.in-Err.stop c.status.result c.status.ensures

pub returns-in-Err-clause-source : goal.returns-in-Err-clause-source
returns-in-Err-clause-source g c = stop-four ℕ c.in-Err.stop c.status.result _ _ c.status.ensures c.in-Err.ensures.cause

pub returns-in-Err-clause-sink : goal.returns-in-Err-clause-sink
returns-in-Err-clause-sink g c = stop-five ℕ c.in-Err.stop c.status.result _ _ c.status.ensures c.in-Err.ensures.cause

pub returns-in-Err-clause-shown : goal.returns-in-Err-clause-shown
returns-in-Err-clause-shown g c = ended-says _ _ _ _ _ _ c.args.settings.now _ _ c.status.result c.status.ensures c.in-Err.ensures.shown
