-- A call that was sent.
use Rattle.std.proofs.Common.{arith}
use Rattle.std.proofs.lemmas.Grind.{common_steps}
use Rattle.trace_lawful.proofs.Deciding.{ok-iff, so, executed-so}
use Rattle.trace_lawful.proofs.lawful.is_executed.Goals as goal

pub returns : goal.returns
returns c =
    let sent = rw c.as_slice.ensures.value at c.in_ok-was_sent.ensures in
    ok-iff c.is_served.result _ _ (executed-so c.args.trace.now c.args.entry c.args.xid c.args.call.now c.args.reply.now (so _ _ sent (grind (arith, common_steps)))) c.is_served.ensures
