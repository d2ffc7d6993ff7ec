use Rattle.nfs_file_calls.proofs.ReplyLaws.{reply_again}
use Rattle.nfs_file_calls.proofs.read_back.file_reply_read_back.Goals as goal

pub returns-clause-again : goal.returns-clause-again
returns-clause-again c = reply_again _ _ c.spells_reply.ensures
