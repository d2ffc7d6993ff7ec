use Rattle.core_answers.proofs.asks.SlotAsks.{slots-ask}
use Rattle.core_answers.proofs.slots_calls_are_asked.Goals as goal

pub returns : goal.returns
returns c = slots-ask
