use Rattle.xdr_codec.proofs.Laws.{finds_by}
use Rattle.nfs_types.proofs.Laws.{attr_codec}
use Rattle.nfs_types.proofs.attr.read_attr.Goals as goal

pub returns-clause-spelled : goal.returns-clause-spelled
returns-clause-spelled c = finds_by (λ x. x) _ _ _ attr_codec c.holds_bytes.ensures c.attr_of.ensures
