-- An entry that fails.
use Rattle.std.proofs.Common.{sym, arith}
use Rattle.std.proofs.lemmas.Grind.{common_steps}
use Rattle.trace_rules.specs.Freshness.{renews_all, fresh}
use Rattle.trace_rules.proofs.Below.{all_below-fails}
use Rattle.trace_rules.proofs.stamps.fresh.Goals as goal

pub returns-then-not-renews_all : goal.returns-then-not-renews_all
unfolding fresh
returns-then-not-renews_all c = sym (all_below-fails (λ n. renews_all c.args.start.now c.args.updates.now n) c.loop-entry.entry c.args.count (omega arith) (grind (arith, common_steps)))
