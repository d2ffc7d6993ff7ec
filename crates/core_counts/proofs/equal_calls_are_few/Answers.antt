use Rattle.core_counts.proofs.counts.equal.Counted.{equal-few}
use Rattle.core_counts.proofs.equal_calls_are_few.Goals as goal

pub returns : goal.returns
returns c = equal-few
