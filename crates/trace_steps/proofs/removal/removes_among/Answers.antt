-- A place that passes.
use Rattle.std.proofs.Common.{length, sym, arith}
use Rattle.std.proofs.lemmas.Grind.{common_steps}
use Rattle.trace_rules.proofs.Below.{any_below-found}
use Rattle.trace_steps.specs.MoveTests.{removes_at, removes_among}
use Rattle.trace_steps.proofs.removal.removes_among.Goals as goal

pub returns-then-removes_at : goal.returns-then-removes_at
unfolding removes_among
returns-then-removes_at c = sym (any_below-found (λ k. removes_at c.args.trace.now c.args.entry c.args.dir.now c.args.name.now c.args.old.now c.args.new.now k) c.loop-place.place (length c.args.old.now) (omega arith) (grind (arith, common_steps)))
