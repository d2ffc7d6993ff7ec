-- So far no byte past the place is pending.
use Rattle.std.proofs.Common.{◌≡◌, ◌-◌, ◌≤◌, true}
use Rattle.trace_claims.specs.Pendings.{is_free}
use Rattle.trace_claims.specs.Places.{all_places}
use Rattle.trace_claims.proofs.pending.none_pending.Given as goal

abbrev pub invariant-loop-at : goal.invariant-loop-at
invariant-loop-at l = record {
  low : l.from ≤ l.at;
  free : all_places (is_free l.digest l.length l.written l.file l.moment l.past) l.from l.at ≡ true;
}

abbrev pub decreases-loop-at : goal.decreases-loop-at
decreases-loop-at l = l.to - l.at
