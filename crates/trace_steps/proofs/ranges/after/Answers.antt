-- What follows, if the whole begins so.
use Rattle.std.proofs.Common.{arith}
use Rattle.std.proofs.lemmas.Grind.{common_steps}
use Rattle.trace_steps.proofs.Ranging.{after-some, after-none}
use Rattle.trace_steps.proofs.ranges.after.Goals as goal

pub returns-then-same_bytes : goal.returns-then-same_bytes
returns-then-same_bytes c = after-some c.args.whole.now c.args.first.now c.from.result.now (grind (arith, common_steps)) (grind (arith, common_steps))

pub returns-else-same_bytes : goal.returns-else-same_bytes
returns-else-same_bytes c = after-none c.args.whole.now c.args.first.now (grind (arith, common_steps))
