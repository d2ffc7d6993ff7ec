use Rattle.pair_runs.proofs.Leavings.{no-early, says-none, says-ran}
use Rattle.pair_runs.proofs.top.run_pair.Goals as goal

pub returns-in-Ok-clause-early : goal.returns-in-Ok-clause-early
returns-in-Ok-clause-early g c = λ early. no-early c.run_scripts.result _ c.run_scripts.ensures.ending early

pub returns-in-Ok-clause-shown : goal.returns-in-Ok-clause-shown
returns-in-Ok-clause-shown g c = says-ran _ _ _ _ _ _ _ _ _ c.in-Ok.first c.in-Ok.second c.run_scripts.result c.in-Ok.ensures.says c.run_scripts.ensures.goes

pub returns-in-Err-clause-early : goal.returns-in-Err-clause-early
returns-in-Err-clause-early g c = λ early. c.in-Err.ensures.says

pub returns-in-Err-clause-shown : goal.returns-in-Err-clause-shown
returns-in-Err-clause-shown g c = says-none _ _ _ _ _ _ c.in-Err.status c.in-Err.ensures.says
