use Rattle.nfs_types.proofs.Laws.{verf_codec}
use Rattle.nfs_types.proofs.verf.verf_read_back.Goals as goal

pub returns-clause-again : goal.returns-clause-again
returns-clause-again c = λ rest. verf_codec.again _ _ rest c.spells_verf.ensures
