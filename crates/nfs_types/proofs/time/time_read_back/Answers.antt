use Rattle.nfs_types.proofs.Laws.{time_codec}
use Rattle.nfs_types.proofs.time.time_read_back.Goals as goal

pub returns-clause-again : goal.returns-clause-again
returns-clause-again c = λ rest. time_codec.again _ _ rest c.spells_time.ensures
