-- The updates so far tell what the entries so far change.
use Rattle.std.proofs.Common.{◌≡◌, ◌≤◌, ◌-◌, length, map}
use Rattle.world_link.specs.Replay.{part_at}
use Rattle.world_link.specs.View.{entry_in}
use Rattle.world_trace.specs.Mirrored.{Mirrors}
use Rattle.world_trace.specs.Traced.{Follows, view_at}
use Rattle.world_trace.proofs.top.all_updates.Given as goal

abbrev pub invariant-loop-place : goal.invariant-loop-place
invariant-loop-place l = record {
  within : l.place ≤ length l.told;
  goes : Mirrors l.initial.export.nodes l.initial.shown.items
      → (l.export ≡ view_at (part_at l.partials) l.initial.export (map entry_in l.told) l.place) × Mirrors l.export.nodes l.shown.items
      × Follows (part_at l.partials) l.initial.export (map entry_in l.told) l.updates.items l.place;
}

abbrev pub decreases-loop-place : goal.decreases-loop-place
decreases-loop-place l = length l.told - l.place
