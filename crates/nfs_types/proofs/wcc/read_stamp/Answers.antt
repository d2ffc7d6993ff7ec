use Rattle.xdr_codec.proofs.Laws.{finds_by}
use Rattle.nfs_types.proofs.Laws.{stamp_codec}
use Rattle.nfs_types.proofs.wcc.read_stamp.Goals as goal

pub returns-clause-spelled : goal.returns-clause-spelled
returns-clause-spelled c = finds_by (λ x. x) _ _ _ stamp_codec c.holds_bytes.ensures c.stamp_of.ensures
