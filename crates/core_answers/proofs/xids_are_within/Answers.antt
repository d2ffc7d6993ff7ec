use Rattle.core_answers.proofs.limits.Unspent.{xids-within}
use Rattle.core_answers.proofs.xids_are_within.Goals as goal

pub returns : goal.returns
returns c = xids-within
