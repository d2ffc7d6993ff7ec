-- A place that passes.
use Rattle.std.proofs.Common.{length, sym, arith}
use Rattle.std.proofs.lemmas.Grind.{common_steps}
use Rattle.trace_rules.proofs.Below.{any_below-found}
use Rattle.trace_steps.specs.MoveTests.{clears_at}
use Rattle.trace_steps.proofs.renaming.clears_some.Goals as goal

pub returns-then-clears_at : goal.returns-then-clears_at
returns-then-clears_at c = sym (any_below-found (λ k. clears_at c.args.name.now c.args.old.now c.args.new.now k) c.loop-place.place (length c.args.old.now) (omega arith) (grind (arith, common_steps)))
