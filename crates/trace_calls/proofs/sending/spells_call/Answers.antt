-- A record with another first word isn't the call.
use Rattle.std.proofs.Common.{arith}
use Rattle.std.proofs.lemmas.Grind.{common_steps}
use Rattle.trace_calls.proofs.Calls.{no-xid}
use Rattle.trace_calls.proofs.sending.spells_call.Goals as goal

pub returns-then-ne : goal.returns-then-ne
returns-then-ne c = no-xid c.args.xid c.args.call.now c.args.rec.now (λ has. absurd (grind (arith, common_steps, has)))
