-- So far the record answers no entry.
use Rattle.std.proofs.Common.{ℕ, length, ◌-◌, ◌<◌, ◌≤◌}
use Rattle.trace_calls.specs.Coming.{AnswersEntry}
use Rattle.trace_calls.proofs.coming.is_replied.Given as goal

abbrev pub invariant-loop-place : goal.invariant-loop-place
invariant-loop-place l = record {
  within : l.place ≤ l.entry;
  inside : l.entry ≤ length l.entries;
  none : (m : ℕ) → m < l.place → AnswersEntry l.entries m l.rec → ⊥;
}

abbrev pub decreases-loop-place : goal.decreases-loop-place
decreases-loop-place l = l.entry - l.place
