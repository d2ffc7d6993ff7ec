-- No update from here on has a verifier.
use Rattle.std.proofs.Common.{◌≡◌}
use Rattle.trace_data.specs.Histories.{verf_at}
use Rattle.trace_data.proofs.objects.verf_at.Given as goal

abbrev pub invariant-loop-left : goal.invariant-loop-left
invariant-loop-left l = verf_at l.start l.updates l.moment ≡ verf_at l.start l.updates l.left

abbrev pub decreases-loop-left : goal.decreases-loop-left
decreases-loop-left l = l.left
