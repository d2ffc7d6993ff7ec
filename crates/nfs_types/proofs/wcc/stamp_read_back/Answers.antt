use Rattle.nfs_types.proofs.Laws.{stamp_codec}
use Rattle.nfs_types.proofs.wcc.stamp_read_back.Goals as goal

pub returns-clause-again : goal.returns-clause-again
returns-clause-again c = λ rest. stamp_codec.again _ _ rest c.spells_stamp.ensures
