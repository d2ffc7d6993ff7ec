-- So far the list has what the file was.
use Rattle.std.proofs.Common.{◌≤◌, ◌-◌}
use Rattle.trace_claims.specs.Objects.{HasWindow}
use Rattle.trace_claims.proofs.objects.window.Given as goal

abbrev pub invariant-loop-at : goal.invariant-loop-at
invariant-loop-at l = record { low : l.from ≤ l.at; high : l.from ≤ l.to → l.at ≤ l.to; has : HasWindow l.trace l.file l.from l.at l.moments.items }

abbrev pub decreases-loop-at : goal.decreases-loop-at
decreases-loop-at l = l.to - l.at
