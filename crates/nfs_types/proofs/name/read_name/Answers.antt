use Rattle.xdr_codec.proofs.Laws.{finds_by}
use Rattle.nfs_types.proofs.Laws.{name_codec}
use Rattle.nfs_types.proofs.name.read_name.Goals as goal

pub returns-clause-spelled : goal.returns-clause-spelled
returns-clause-spelled c = finds_by (λ x. x) _ _ _ name_codec c.holds_bytes.ensures c.name_of.ensures
