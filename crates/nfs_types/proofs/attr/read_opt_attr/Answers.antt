use Rattle.xdr_codec.proofs.Laws.{finds_by}
use Rattle.nfs_types.proofs.Laws.{opt_attr_codec}
use Rattle.nfs_types.proofs.attr.read_opt_attr.Goals as goal

pub returns-clause-spelled : goal.returns-clause-spelled
returns-clause-spelled c = finds_by (λ x. x) _ _ _ opt_attr_codec c.holds_bytes.ensures c.opt_attr_of.ensures
