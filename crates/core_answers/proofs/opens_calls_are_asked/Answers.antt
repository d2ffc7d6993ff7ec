use Rattle.core_answers.proofs.rows.OpenAsks.{opens-ask}
use Rattle.core_answers.proofs.opens_calls_are_asked.Goals as goal

pub returns : goal.returns
returns c = opens-ask
