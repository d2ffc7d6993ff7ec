-- So far the list has the objects to which the first names lead.
use Rattle.std.proofs.Common.{length, List, [], ◌-◌, ◌≤◌}
use Rattle.std.specs.Prelude.{take}
use Rattle.world_model.specs.declared.entry.Entry.{Entry}
use Rattle.world_model.specs.Mounts.{Origin}
use Rattle.trace_claims.specs.Hearing.{HasHeard}
use Rattle.trace_claims.specs.Operations.{LeadsAll}
use Rattle.trace_claims.proofs.paths.led_to.Given as goal

abbrev pub invariant-loop-at : goal.invariant-loop-at
invariant-loop-at l = record {
  within : l.at ≤ length l.names;
  so_far : (origin : Origin) (h : List Entry) → HasHeard h (length h) l.heard → LeadsAll origin h [] l.roots → LeadsAll origin h (take l.at l.names) l.list.items;
}

abbrev pub decreases-loop-at : goal.decreases-loop-at
decreases-loop-at l = length l.names - l.at
