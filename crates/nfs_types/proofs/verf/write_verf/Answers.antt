use Rattle.xdr_codec.proofs.Written.{wrote_by}
use Rattle.nfs_types.proofs.verf.write_verf.Goals as goal

pub returns-clause-spelled : goal.returns-clause-spelled
returns-clause-spelled c = wrote_by _ _ _ _ _ c.spells_verf.ensures c.verf_into.ensures.ok
