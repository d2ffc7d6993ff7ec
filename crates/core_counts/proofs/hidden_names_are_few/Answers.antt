use Rattle.core_counts.proofs.counts.hidden.Counted.{hidden-few}
use Rattle.core_counts.proofs.hidden_names_are_few.Goals as goal

pub returns : goal.returns
returns c = hidden-few
