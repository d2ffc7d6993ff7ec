use Rattle.xdr_codec.proofs.Written.{wrote_by}
use Rattle.nfs_file_calls.proofs.reply.write_file_reply.Goals as goal

pub returns-clause-spelled : goal.returns-clause-spelled
returns-clause-spelled c = wrote_by _ _ _ _ _ c.spells_reply.ensures c.file_reply_into.ensures.ok
