-- So far each object is sound.
use Rattle.std.proofs.Common.{◌-◌, ◌≡◌, ◌≤◌, true}
use Rattle.trace_rules.specs.Decided.{all_below}
use Rattle.trace_data.specs.Histories.{objects_after}
use Rattle.trace_rules.specs.Soundness.{sound_all}
use Rattle.trace_rules.proofs.servers.sound_updates.Given as goal

abbrev pub invariant-loop-entry : goal.invariant-loop-entry
invariant-loop-entry l = record { within : l.entry ≤ l.count; all : all_below (λ n. sound_all (objects_after l.updates n)) l.entry ≡ true }

abbrev pub decreases-loop-entry : goal.decreases-loop-entry
decreases-loop-entry l = l.count - l.entry
