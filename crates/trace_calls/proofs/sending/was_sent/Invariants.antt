-- So far no entry sends the call.
use Rattle.std.proofs.Common.{ℕ, length, ◌-◌, ◌<◌, ◌≤◌}
use Rattle.trace_calls.specs.Sending.{Sends}
use Rattle.trace_calls.proofs.sending.was_sent.Given as goal

abbrev pub invariant-loop-place : goal.invariant-loop-place
invariant-loop-place l = record {
  within : l.place ≤ l.entry;
  inside : l.entry ≤ length l.entries;
  none : (m : ℕ) → m < l.place → Sends l.entries m l.xid l.call → ⊥;
}

abbrev pub decreases-loop-place : goal.decreases-loop-place
decreases-loop-place l = l.entry - l.place
