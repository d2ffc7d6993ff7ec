use Rattle.core_counts.proofs.thrift.short.SavedLong.{saved-long}
use Rattle.core_counts.proofs.saved_writes_are_long.Goals as goal

pub returns : goal.returns
returns c = saved-long
