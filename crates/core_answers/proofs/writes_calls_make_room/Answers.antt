use Rattle.core_answers.proofs.asks.WriteAsks.{writes-ask}
use Rattle.core_answers.proofs.writes_calls_make_room.Goals as goal

pub returns : goal.returns
returns c = writes-ask
