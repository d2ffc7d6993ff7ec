use Rattle.law_calls.proofs.CallsWait.{waiting}
use Rattle.law_calls.proofs.executed_call_waits.Goals as goal

pub returns : goal.returns
returns c = waiting
