-- So far each one passes.
use Rattle.std.proofs.Common.{length, ◌-◌, ◌≡◌, ◌≤◌, true}
use Rattle.trace_rules.specs.Decided.{all_below}
use Rattle.trace_data.specs.Histories.{objects_after}
use Rattle.trace_rules.specs.Restarting.{left_at}
use Rattle.trace_rules.proofs.restarts.left_all.Given as goal

abbrev pub invariant-loop-place : goal.invariant-loop-place
invariant-loop-place l = record {
  within : l.place ≤ length (objects_after l.updates l.entry);
  all : all_below (λ k. left_at l.start l.updates l.entry (objects_after l.updates l.entry) k) l.place ≡ true;
}

abbrev pub decreases-loop-place : goal.decreases-loop-place
decreases-loop-place l = length (objects_after l.updates l.entry) - l.place
