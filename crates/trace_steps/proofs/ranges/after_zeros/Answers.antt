-- What follows, if the whole begins so.
use Rattle.std.proofs.Common.{arith}
use Rattle.std.proofs.lemmas.Grind.{common_steps}
use Rattle.trace_steps.proofs.Ranging.{zeros-some, zeros-none}
use Rattle.trace_steps.proofs.ranges.after_zeros.Goals as goal

pub returns-then-are_zeros : goal.returns-then-are_zeros
returns-then-are_zeros c = zeros-some c.args.whole.now c.from.result.now c.args.count (grind (arith, common_steps)) (grind (arith, common_steps)) (grind (arith, common_steps))

pub returns-else-are_zeros : goal.returns-else-are_zeros
returns-else-are_zeros c = zeros-none c.args.whole.now c.args.count (grind (arith, common_steps)) (grind (arith, common_steps))
