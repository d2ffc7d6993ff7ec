use Rattle.core_counts.proofs.counts.reads.Counted.{few-reads-made}
use Rattle.core_counts.proofs.reads_are_few.Goals as goal

pub returns : goal.returns
returns c = few-reads-made
