-- So far each one passes.
use Rattle.std.proofs.Common.{◌-◌, ◌≡◌, ◌≤◌, true}
use Rattle.trace_rules.specs.Decided.{all_below}
use Rattle.trace_data.specs.Histories.{objects_after}
use Rattle.trace_rules.specs.Restarting.{steady_all}
use Rattle.trace_rules.proofs.restarts.steady_updates.Given as goal

abbrev pub invariant-loop-entry : goal.invariant-loop-entry
invariant-loop-entry l = record {
  within : l.entry ≤ l.moment;
  all : all_below (λ j. steady_all l.start l.updates l.moment (objects_after l.updates j)) l.entry ≡ true;
}

abbrev pub decreases-loop-entry : goal.decreases-loop-entry
decreases-loop-entry l = l.moment - l.entry
