use Rattle.xdr_codec.proofs.Laws.{finds_by}
use Rattle.nfs_types.proofs.Laws.{wcc_codec}
use Rattle.nfs_types.proofs.wcc.read_wcc.Goals as goal

pub returns-clause-spelled : goal.returns-clause-spelled
returns-clause-spelled c = finds_by (λ x. x) _ _ _ wcc_codec c.holds_bytes.ensures c.wcc_of.ensures
