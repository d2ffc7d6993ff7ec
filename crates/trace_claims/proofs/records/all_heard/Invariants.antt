-- So far all are listed.
use Rattle.std.proofs.Common.{length, ◌-◌, ◌≤◌}
use Rattle.trace_claims.specs.Hearing.{HasHeard}
use Rattle.trace_claims.proofs.records.all_heard.Given as goal

abbrev pub invariant-loop-place : goal.invariant-loop-place
invariant-loop-place l = record { within : l.place ≤ length l.entries; has : HasHeard l.entries l.place l.all.items }

abbrev pub decreases-loop-place : goal.decreases-loop-place
decreases-loop-place l = length l.entries - l.place
