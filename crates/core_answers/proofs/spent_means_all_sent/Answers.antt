use Rattle.core_answers.proofs.limits.AllSent.{all-sent}
use Rattle.core_answers.proofs.spent_means_all_sent.Goals as goal

pub returns : goal.returns
returns c = all-sent
