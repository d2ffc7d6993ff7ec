use Rattle.xdr_codec.proofs.Laws.{finds_by}
use Rattle.nfs_types.proofs.Laws.{verf_codec}
use Rattle.nfs_types.proofs.verf.read_verf.Goals as goal

pub returns-clause-spelled : goal.returns-clause-spelled
returns-clause-spelled c = finds_by (λ x. x) _ _ _ verf_codec c.holds_bytes.ensures c.verf_of.ensures
