use Rattle.core_answers.proofs.asks.XidAsks.{xids-kept}
use Rattle.core_answers.proofs.calls_keep_to_their_xids.Goals as goal

pub returns : goal.returns
returns c = xids-kept
