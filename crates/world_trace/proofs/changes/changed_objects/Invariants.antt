-- The places so far are shown as they are.
use Rattle.std.proofs.Common.{◌≡◌, ◌≤◌, ◌-◌, List, length}
use Rattle.export_fs.specs.declared.node.Node.{Node}
use Rattle.world_trace.specs.Mirrored.{Mirrors, Renewed}
use Rattle.world_trace.proofs.changes.changed_objects.Given as goal

abbrev pub invariant-loop-place : goal.invariant-loop-place
invariant-loop-place l = record {
  within : l.place ≤ l.count;
  many : l.count ≡ length l.export.nodes;
  renewed : (old : List Node) → Mirrors old l.initial.shown.items → Renewed l.place old l.export.nodes l.shown.items l.objects.items;
}

abbrev pub decreases-loop-place : goal.decreases-loop-place
decreases-loop-place l = l.count - l.place
