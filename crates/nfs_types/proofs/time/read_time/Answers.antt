use Rattle.xdr_codec.proofs.Laws.{finds_by}
use Rattle.nfs_types.proofs.Laws.{time_codec}
use Rattle.nfs_types.proofs.time.read_time.Goals as goal

pub returns-clause-spelled : goal.returns-clause-spelled
returns-clause-spelled c = finds_by (λ x. x) _ _ _ time_codec c.holds_bytes.ensures c.time_of.ensures
