use Rattle.core_answers.proofs.asks.PutAsks.{puts-ask}
use Rattle.core_answers.proofs.puts_calls_are_asked.Goals as goal

pub returns : goal.returns
returns c = puts-ask
