use Rattle.rpc_message.proofs.CallLaws.{same_bytes}
use Rattle.rpc_message.proofs.ReplyLaws.{finds_reply}
use Rattle.rpc_message.proofs.reply.read_reply.Goals as goal

pub returns-clause-spelled : goal.returns-clause-spelled
returns-clause-spelled c = finds_reply _ _ _ (same_bytes _ _ c.new.ensures c.holds_bytes.ensures) c.reply_in.ensures
