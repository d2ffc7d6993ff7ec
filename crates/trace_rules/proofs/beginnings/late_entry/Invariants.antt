-- So far each entry passes.
use Rattle.std.proofs.Common.{length, ◌-◌, ◌≡◌, ◌≤◌, true}
use Rattle.trace_rules.specs.Decided.{all_below, in_time}
use Rattle.trace_rules.proofs.beginnings.late_entry.Given as goal

abbrev pub invariant-loop-entry : goal.invariant-loop-entry
invariant-loop-entry l = record { within : l.entry ≤ length l.entries; all : all_below (in_time l.entries) l.entry ≡ true }

abbrev pub decreases-loop-entry : goal.decreases-loop-entry
decreases-loop-entry l = length l.entries - l.entry
