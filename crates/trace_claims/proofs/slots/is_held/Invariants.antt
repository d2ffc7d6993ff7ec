-- So far no slot holds the file.
use Rattle.std.proofs.Common.{length, List, ◌-◌, ◌≤◌}
use Rattle.world_model.specs.declared.entry.Entry.{Entry}
use Rattle.claims.specs.Modes.{Modes}
use Rattle.trace_claims.specs.Slotted.{HasNamed}
use Rattle.trace_claims.proofs.Leavings.{NoneHold}
use Rattle.trace_claims.proofs.slots.is_held.Given as goal

abbrev pub invariant-loop-at : goal.invariant-loop-at
invariant-loop-at l = record {
  within : l.at ≤ length l.all;
  none : (m : Modes) (h : List Entry) → HasNamed m h l.all → l.place ≤ length h → NoneHold m h l.place l.all l.file l.at;
}

abbrev pub decreases-loop-at : goal.decreases-loop-at
decreases-loop-at l = length l.all - l.at
