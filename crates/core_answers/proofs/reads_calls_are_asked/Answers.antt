use Rattle.core_answers.proofs.asks.ReadAsks.{reads-ask}
use Rattle.core_answers.proofs.reads_calls_are_asked.Goals as goal

pub returns : goal.returns
returns c = reads-ask
