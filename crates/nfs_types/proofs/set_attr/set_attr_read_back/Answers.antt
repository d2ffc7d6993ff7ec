use Rattle.nfs_types.proofs.Laws.{set_attr_codec}
use Rattle.nfs_types.proofs.set_attr.set_attr_read_back.Goals as goal

pub returns-clause-again : goal.returns-clause-again
returns-clause-again c = λ rest. set_attr_codec.again _ _ rest c.spells_set_attr.ensures
