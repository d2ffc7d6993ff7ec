-- So far all last closes are listed.
use Rattle.std.proofs.Common.{length, List, ◌-◌, ◌≤◌, ◌≡◌}
use Rattle.world_model.specs.declared.entry.Entry.{Entry}
use Rattle.claims.specs.Modes.{Modes}
use Rattle.trace_claims.specs.Lefts.{LeftsUpTo}
use Rattle.trace_claims.specs.Slotted.{HasNamed}
use Rattle.trace_claims.proofs.slots.all_left.Given as goal

abbrev pub invariant-loop-at : goal.invariant-loop-at
invariant-loop-at l = record {
  within : l.at ≤ length l.operations;
  lefts : (m : Modes) (h : List Entry) → HasNamed m h l.named → l.count ≡ length h → LeftsUpTo m h l.operations l.came l.at l.all.items;
}

abbrev pub decreases-loop-at : goal.decreases-loop-at
decreases-loop-at l = length l.operations - l.at
