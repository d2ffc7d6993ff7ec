use Rattle.nfs_types.proofs.Laws.{name_codec}
use Rattle.nfs_types.proofs.name.name_read_back.Goals as goal

pub returns-clause-again : goal.returns-clause-again
returns-clause-again c = λ rest. name_codec.again _ _ rest c.spells_name.ensures
