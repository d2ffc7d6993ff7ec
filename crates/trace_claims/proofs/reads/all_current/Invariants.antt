-- So far each byte is current.
use Rattle.std.proofs.Common.{◌≡◌, ◌-◌, ◌≤◌, true, length}
use Rattle.trace_claims.specs.Places.{all_places}
use Rattle.trace_claims.specs.Reading.{is_current_at}
use Rattle.trace_claims.proofs.reads.all_current.Given as goal

abbrev pub invariant-loop-at : goal.invariant-loop-at
invariant-loop-at l = record { within : l.at ≤ length l.bytes; current : all_places (is_current_at l.trace l.digest l.total l.read l.bytes) 0 l.at ≡ true }

abbrev pub decreases-loop-at : goal.decreases-loop-at
decreases-loop-at l = length l.bytes - l.at
