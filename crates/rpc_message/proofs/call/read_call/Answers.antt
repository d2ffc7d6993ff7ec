use Rattle.rpc_message.proofs.CallLaws.{finds_call, same_bytes}
use Rattle.rpc_message.proofs.call.read_call.Goals as goal

pub returns-clause-spelled : goal.returns-clause-spelled
returns-clause-spelled c = finds_call _ _ _ (same_bytes _ _ c.new.ensures c.holds_bytes.ensures) c.call_of.ensures
