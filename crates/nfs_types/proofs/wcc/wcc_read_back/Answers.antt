use Rattle.nfs_types.proofs.Laws.{wcc_codec}
use Rattle.nfs_types.proofs.wcc.wcc_read_back.Goals as goal

pub returns-clause-again : goal.returns-clause-again
returns-clause-again c = λ rest. wcc_codec.again _ _ rest c.spells_wcc.ensures
