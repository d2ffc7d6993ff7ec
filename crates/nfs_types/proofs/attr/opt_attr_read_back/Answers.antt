use Rattle.nfs_types.proofs.Laws.{opt_attr_codec}
use Rattle.nfs_types.proofs.attr.opt_attr_read_back.Goals as goal

pub returns-clause-again : goal.returns-clause-again
returns-clause-again c = λ rest. opt_attr_codec.again _ _ rest c.spells_opt_attr.ensures
