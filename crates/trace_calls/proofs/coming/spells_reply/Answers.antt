-- What isn't the reply.
use Rattle.std.proofs.Common.{arith}
use Rattle.std.proofs.lemmas.Grind.{common_steps}
use Rattle.trace_calls.proofs.Replies.{no-xid-reply, no-reply}
use Rattle.trace_calls.proofs.coming.spells_reply.Goals as goal

pub returns-then-ne : goal.returns-then-ne
returns-then-ne c = no-xid-reply c.args.xid c.args.call.now c.args.reply.now c.args.rec.now (λ has. absurd (grind (arith, common_steps, has)))

pub returns-in-None : goal.returns-in-None
returns-in-None c = no-reply c.args.xid c.args.call.now c.args.reply.now c.args.rec.now (rw c.in-None.is at c.in_ok-came.ensures.finds)
