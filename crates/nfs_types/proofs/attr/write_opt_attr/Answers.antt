use Rattle.xdr_codec.proofs.Written.{wrote_by}
use Rattle.nfs_types.proofs.attr.write_opt_attr.Goals as goal

pub returns-clause-spelled : goal.returns-clause-spelled
returns-clause-spelled c = wrote_by _ _ _ _ _ c.spells_opt_attr.ensures c.opt_attr_into.ensures.ok
