-- So far the last closes by the holds are listed.
use Rattle.std.proofs.Common.{length, List, ◌-◌, ◌+◌, ◌≤◌, ◌≡◌}
use Rattle.world_model.specs.declared.entry.Entry.{Entry}
use Rattle.claims.specs.Modes.{Modes}
use Rattle.trace_claims.specs.Lefts.{AddsLefts}
use Rattle.trace_claims.specs.Slotted.{HasNamed}
use Rattle.trace_claims.proofs.slots.add_of_holds.Given as goal

abbrev pub invariant-loop-at : goal.invariant-loop-at
invariant-loop-at l = record {
  within : l.at ≤ length l.holds;
  adds : (m : Modes) (h : List Entry) → HasNamed m h l.named → l.after ≡ l.close.ending.end + 1 → l.after ≤ length h → AddsLefts m h l.operations l.came l.close l.holds l.at l.initial.all.items l.all.items;
}

abbrev pub decreases-loop-at : goal.decreases-loop-at
decreases-loop-at l = length l.holds - l.at
