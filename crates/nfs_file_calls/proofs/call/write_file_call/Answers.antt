use Rattle.xdr_codec.proofs.Written.{wrote_by}
use Rattle.nfs_file_calls.proofs.call.write_file_call.Goals as goal

pub returns-clause-spelled : goal.returns-clause-spelled
returns-clause-spelled c = wrote_by _ _ _ _ _ c.spells_call.ensures c.file_call_into.ensures.ok
