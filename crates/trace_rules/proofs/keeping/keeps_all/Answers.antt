-- An object that fails.
use Rattle.std.proofs.Common.{length, sym, arith}
use Rattle.std.proofs.lemmas.Grind.{common_steps}
use Rattle.trace_data.specs.Histories.{objects_after}
use Rattle.trace_rules.specs.Keeping.{keeps_at, keeps_all}
use Rattle.trace_rules.proofs.Below.{all_below-fails}
use Rattle.trace_rules.proofs.keeping.keeps_all.Goals as goal

pub returns-then-not-keeps_at : goal.returns-then-not-keeps_at
unfolding keeps_all
returns-then-not-keeps_at c = sym (all_below-fails (λ k. keeps_at c.args.start.now c.args.updates.now c.args.entry (objects_after c.args.updates.now c.args.entry) k) c.loop-place.place (length (objects_after c.args.updates.now c.args.entry)) (grind (arith, common_steps)) (grind (arith, common_steps)))
