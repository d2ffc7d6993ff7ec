-- An object that fails.
use Rattle.std.proofs.Common.{length, sym, arith}
use Rattle.std.proofs.lemmas.Grind.{common_steps}
use Rattle.trace_data.specs.Histories.{objects_after}
use Rattle.trace_rules.specs.Freshness.{renews_at, renews_all}
use Rattle.trace_rules.proofs.Below.{all_below-fails}
use Rattle.trace_rules.proofs.stamps.renews_all.Goals as goal

pub returns-then-not-renews_at : goal.returns-then-not-renews_at
unfolding renews_all
returns-then-not-renews_at c = sym (all_below-fails (λ k. renews_at c.args.start.now c.args.updates.now c.args.entry (objects_after c.args.updates.now c.args.entry) k) c.loop-place.place (length (objects_after c.args.updates.now c.args.entry)) (grind (arith, common_steps)) (grind (arith, common_steps)))
