use Rattle.xdr_codec.proofs.Laws.{finds_by}
use Rattle.nfs_types.proofs.Laws.{set_attr_codec}
use Rattle.nfs_types.proofs.set_attr.read_set_attr.Goals as goal

pub returns-clause-spelled : goal.returns-clause-spelled
returns-clause-spelled c = finds_by (λ x. x) _ _ _ set_attr_codec c.holds_bytes.ensures c.set_attr_of.ensures
