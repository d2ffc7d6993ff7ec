use Rattle.xdr_codec.proofs.Written.{wrote_by}
use Rattle.nfs_types.proofs.set_attr.write_set_attr.Goals as goal

pub returns-clause-spelled : goal.returns-clause-spelled
returns-clause-spelled c = wrote_by _ _ _ _ _ c.spells_set_attr.ensures c.set_attr_into.ensures.ok
