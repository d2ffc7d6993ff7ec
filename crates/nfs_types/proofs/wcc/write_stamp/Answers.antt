use Rattle.xdr_codec.proofs.Written.{wrote_by}
use Rattle.nfs_types.proofs.wcc.write_stamp.Goals as goal

pub returns-clause-spelled : goal.returns-clause-spelled
returns-clause-spelled c = wrote_by _ _ _ _ _ c.spells_stamp.ensures c.stamp_into.ensures.ok
