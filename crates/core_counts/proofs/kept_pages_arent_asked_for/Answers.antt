use Rattle.core_counts.proofs.thrift.UnkeptAsked.{unkept-asked}
use Rattle.core_counts.proofs.kept_pages_arent_asked_for.Goals as goal

pub returns : goal.returns
returns c = unkept-asked
