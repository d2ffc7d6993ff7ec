use Rattle.core_answers.proofs.asks.StatAsks.{stats-ask}
use Rattle.core_answers.proofs.stats_calls_are_asked.Goals as goal

pub returns : goal.returns
returns c = stats-ask
