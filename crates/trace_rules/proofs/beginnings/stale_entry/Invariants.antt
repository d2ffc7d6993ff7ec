-- So far each entry passes.
use Rattle.std.proofs.Common.{length, ◌-◌, ◌≡◌, ◌≤◌, true}
use Rattle.trace_rules.specs.Decided.{all_below}
use Rattle.trace_rules.specs.Freshness.{renews_all}
use Rattle.trace_rules.proofs.beginnings.stale_entry.Given as goal

abbrev pub invariant-loop-entry : goal.invariant-loop-entry
invariant-loop-entry l = record { within : l.entry ≤ length l.trace.entries.items; all : all_below (renews_all l.trace.start.objects.items l.trace.updates.items) l.entry ≡ true }

abbrev pub decreases-loop-entry : goal.decreases-loop-entry
decreases-loop-entry l = length l.trace.entries.items - l.entry
