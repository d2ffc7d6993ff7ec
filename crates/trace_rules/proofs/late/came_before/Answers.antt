-- An entry that decides it.
use Rattle.std.proofs.Common.{sym, arith}
use Rattle.std.proofs.lemmas.Grind.{common_steps}
use Rattle.trace_rules.specs.Decided.{delivers_at, came_before}
use Rattle.trace_rules.proofs.Below.{any_below-found}
use Rattle.trace_rules.proofs.late.came_before.Goals as goal

pub returns-then-delivers_at : goal.returns-then-delivers_at
unfolding came_before
returns-then-delivers_at c = sym (any_below-found (λ i. delivers_at c.args.history.now c.args.xid i) c.loop-i.i (c.args.entry) (omega arith) (grind (arith, common_steps)))
