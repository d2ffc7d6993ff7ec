use Rattle.core_counts.proofs.thrift.short.PutsLong.{puts-long}
use Rattle.core_counts.proofs.put_writes_are_long.Goals as goal

pub returns : goal.returns
returns c = puts-long
