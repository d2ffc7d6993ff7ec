use Rattle.core_counts.proofs.thrift.ReadsLong.{reads-long}
use Rattle.core_counts.proofs.reads_are_long.Goals as goal

pub returns : goal.returns
returns c = reads-long
