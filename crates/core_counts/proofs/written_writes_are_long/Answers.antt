use Rattle.core_counts.proofs.thrift.short.WrittenLong.{written-long}
use Rattle.core_counts.proofs.written_writes_are_long.Goals as goal

pub returns : goal.returns
returns c = written-long
