use Rattle.asked_runs.proofs.Tops.{outcome-most, outcome-taken}
use Rattle.asked_runs.proofs.top.run_with.Goals as goal

pub returns-in-Ok-clause-statuses : goal.returns-in-Ok-clause-statuses
returns-in-Ok-clause-statuses g c = outcome-most c.in-Ok.status c.in-Ok.ensures.statuses

pub returns-in-Ok-clause-taken : goal.returns-in-Ok-clause-taken
returns-in-Ok-clause-taken g c = outcome-taken c.in-Ok.status c.in-Ok.ensures.statuses

pub returns-in-Err-clause-runs : goal.returns-in-Err-clause-runs
returns-in-Err-clause-runs g c = c.in-Err.ensures.runs
