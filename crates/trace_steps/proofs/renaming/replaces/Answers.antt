-- A place that passes.
use Rattle.std.proofs.Common.{length, sym, arith}
use Rattle.std.proofs.lemmas.Grind.{common_steps}
use Rattle.trace_rules.proofs.Below.{any_below-found}
use Rattle.trace_steps.specs.MoveTests.{replaces_at, replaces}
use Rattle.trace_steps.proofs.renaming.replaces.Goals as goal

pub returns-then-branch : goal.returns-then-branch
unfolding replaces
returns-then-branch c = sym (any_below-found (λ k. replaces_at c.args.name.now c.args.handle.now c.args.old.now c.args.new.now k) c.loop-place.place (length c.args.new.now) (grind (arith, common_steps)) (grind (arith, common_steps)))
