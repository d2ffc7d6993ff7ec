-- No update from here on names the handle.
use Rattle.std.proofs.Common.{◌≡◌}
use Rattle.trace_data.specs.Histories.{object_at}
use Rattle.trace_data.proofs.objects.object_at.Given as goal

abbrev pub invariant-loop-left : goal.invariant-loop-left
invariant-loop-left l = object_at l.start l.updates l.moment l.handle ≡ object_at l.start l.updates l.left l.handle

abbrev pub decreases-loop-left : goal.decreases-loop-left
decreases-loop-left l = l.left
