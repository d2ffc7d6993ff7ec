-- No update so far gave the stamp.
use Rattle.std.proofs.Common.{◌-◌, ◌≡◌, ◌≤◌, false}
use Rattle.trace_rules.specs.Decided.{any_below}
use Rattle.trace_data.specs.Histories.{objects_after}
use Rattle.trace_rules.specs.Freshness.{gave_stamp}
use Rattle.trace_rules.proofs.stamps.had_stamp.Given as goal

abbrev pub invariant-loop-entry : goal.invariant-loop-entry
invariant-loop-entry l = record {
  within : l.entry ≤ l.moment;
  none : gave_stamp l.start l.handle l.stamp ≡ false;
  all : any_below (λ j. gave_stamp (objects_after l.updates j) l.handle l.stamp) l.entry ≡ false;
}

abbrev pub decreases-loop-entry : goal.decreases-loop-entry
decreases-loop-entry l = l.moment - l.entry
