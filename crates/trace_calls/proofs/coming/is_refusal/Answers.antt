-- A denial.
use Rattle.std.proofs.Common.{ap, subst}
use Rattle.rpc_message.specs.Reply.{RpcReply, reply_of, SpellsReply}
use Rattle.trace_calls.proofs.Replies.{denied-so}
use Rattle.trace_calls.proofs.coming.is_refusal.Goals as goal

pub returns-in-Ok-Denied : goal.returns-in-Ok-Denied
returns-in-Ok-Denied c =
    denied-so c.args.xid c.args.rec.now c.in-Ok-Denied.under c.in-Ok-Denied.field-0-1 c.in-Ok-Denied.field-0-2 c.in-Ok-Denied.field-0-3
    (subst (λ (z : RpcReply). SpellsReply z c.args.rec.now) (ap reply_of c.in-Ok-Denied.field-0-is) c.in-Ok-Denied.ensures.spelled.found)
