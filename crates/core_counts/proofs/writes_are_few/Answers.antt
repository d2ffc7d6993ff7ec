use Rattle.core_counts.proofs.counts.writes.Counted.{few-writes-made}
use Rattle.core_counts.proofs.writes_are_few.Goals as goal

pub returns : goal.returns
returns c = few-writes-made
