-- So far no update names it.
use Rattle.std.proofs.Common.{◌-◌, ◌≡◌, ◌≤◌, false}
use Rattle.trace_rules.specs.Decided.{any_below}
use Rattle.trace_data.specs.Histories.{objects_after}
use Rattle.trace_steps.specs.MoveTests.{names_among}
use Rattle.trace_steps.proofs.removal.named_before.Given as goal

abbrev pub invariant-loop-at : goal.invariant-loop-at
invariant-loop-at l = record {
  within : l.at ≤ l.entry;
  none : any_below (λ k. names_among l.trace l.entry l.handle (objects_after l.trace.updates.items k)) l.at ≡ false;
}

abbrev pub decreases-loop-at : goal.decreases-loop-at
decreases-loop-at l = l.entry - l.at
