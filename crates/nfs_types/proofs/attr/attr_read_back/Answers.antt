use Rattle.nfs_types.proofs.Laws.{attr_codec}
use Rattle.nfs_types.proofs.attr.attr_read_back.Goals as goal

pub returns-clause-again : goal.returns-clause-again
returns-clause-again c = λ rest. attr_codec.again _ _ rest c.spells_attr.ensures
