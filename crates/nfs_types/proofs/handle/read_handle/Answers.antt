use Rattle.xdr_codec.proofs.Laws.{finds_by}
use Rattle.nfs_types.proofs.Laws.{handle_codec}
use Rattle.nfs_types.proofs.handle.read_handle.Goals as goal

pub returns-clause-spelled : goal.returns-clause-spelled
returns-clause-spelled c = finds_by (λ x. x) _ _ _ handle_codec c.holds_bytes.ensures c.handle_of.ensures
