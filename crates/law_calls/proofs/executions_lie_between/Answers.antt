use Rattle.law_calls.proofs.CallsWait.{between}
use Rattle.law_calls.proofs.executions_lie_between.Goals as goal

pub returns : goal.returns
returns c = between
