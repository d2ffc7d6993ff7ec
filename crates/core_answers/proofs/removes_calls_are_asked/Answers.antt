use Rattle.core_answers.proofs.asks.RemoveAsks.{removes-ask}
use Rattle.core_answers.proofs.removes_calls_are_asked.Goals as goal

pub returns : goal.returns
returns c = removes-ask
