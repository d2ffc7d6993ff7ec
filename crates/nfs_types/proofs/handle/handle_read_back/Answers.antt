use Rattle.nfs_types.proofs.Laws.{handle_codec}
use Rattle.nfs_types.proofs.handle.handle_read_back.Goals as goal

pub returns-clause-again : goal.returns-clause-again
returns-clause-again c = λ rest. handle_codec.again _ _ rest c.spells_handle.ensures
