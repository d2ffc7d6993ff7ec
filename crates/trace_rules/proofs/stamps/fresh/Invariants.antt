-- So far each entry passes.
use Rattle.std.proofs.Common.{◌-◌, ◌≡◌, ◌≤◌, true}
use Rattle.trace_rules.specs.Decided.{all_below}
use Rattle.trace_rules.specs.Freshness.{renews_all}
use Rattle.trace_rules.proofs.stamps.fresh.Given as goal

abbrev pub invariant-loop-entry : goal.invariant-loop-entry
invariant-loop-entry l = record { within : l.entry ≤ l.count; all : all_below (λ n. renews_all l.start l.updates n) l.entry ≡ true }

abbrev pub decreases-loop-entry : goal.decreases-loop-entry
decreases-loop-entry l = l.count - l.entry
