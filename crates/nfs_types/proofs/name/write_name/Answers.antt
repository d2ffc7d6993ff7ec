use Rattle.xdr_codec.proofs.Written.{wrote_by}
use Rattle.nfs_types.proofs.name.write_name.Goals as goal

pub returns-clause-spelled : goal.returns-clause-spelled
returns-clause-spelled c = wrote_by _ _ _ _ _ c.spells_name.ensures c.name_into.ensures.ok
