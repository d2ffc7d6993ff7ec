use Rattle.core_counts.proofs.thrift.short.LongWrites.{long-writes}
use Rattle.core_counts.proofs.writes_are_long.Goals as goal

pub returns : goal.returns
returns c = long-writes
