use Rattle.core_answers.proofs.asks.PutAsks.{lone-puts-ask}
use Rattle.core_answers.proofs.lone_puts_calls_are_asked.Goals as goal

pub returns : goal.returns
returns c = lone-puts-ask
