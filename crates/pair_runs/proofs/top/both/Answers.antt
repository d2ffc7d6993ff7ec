use Rattle.pair_runs.proofs.Leavings.{both-read, first-refused, second-refused}
use Rattle.pair_runs.proofs.top.both.Goals as goal

pub returns-in-Err-clause-says : goal.returns-in-Err-clause-says
returns-in-Err-clause-says g c = first-refused _ _ _ _ _ c.in-Err.ensures.says

pub returns-in-Err-script_of-clause-says : goal.returns-in-Err-script_of-clause-says
returns-in-Err-script_of-clause-says g c = second-refused _ _ c.in-Ok.a _ _ _ _ c.in-Ok.ensures.says c.in-Err-script_of.ensures.says
