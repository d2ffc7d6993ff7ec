-- So far the roots that the replies gave are listed.
use Rattle.std.proofs.Common.{length, ◌-◌, ◌≤◌}
use Rattle.trace_claims.specs.Paths.{RootsUpTo}
use Rattle.trace_claims.proofs.paths.mounted_roots.Given as goal

abbrev pub invariant-loop-at : goal.invariant-loop-at
invariant-loop-at l = record { within : l.at ≤ length l.heard; roots : RootsUpTo l.path l.heard l.at l.roots.items }

abbrev pub decreases-loop-at : goal.decreases-loop-at
decreases-loop-at l = length l.heard - l.at
