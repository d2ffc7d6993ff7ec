use Rattle.core_answers.proofs.limits.Unspent.{all-made}
use Rattle.core_answers.proofs.spent_means_all_made.Goals as goal

pub returns : goal.returns
returns c = all-made
