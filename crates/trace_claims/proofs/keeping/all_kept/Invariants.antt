-- So far each place is kept.
use Rattle.std.proofs.Common.{◌≡◌, ◌-◌, ◌≤◌, true}
use Rattle.trace_claims.specs.Places.{all_places}
use Rattle.trace_claims.specs.Keeping.{is_kept}
use Rattle.trace_claims.proofs.keeping.all_kept.Given as goal

abbrev pub invariant-loop-at : goal.invariant-loop-at
invariant-loop-at l = record {
  low : l.span.from ≤ l.at;
  kept : all_places (is_kept l.entries l.digest l.written l.question l.now l.stable l.span.offset) l.span.from l.at ≡ true;
}

abbrev pub decreases-loop-at : goal.decreases-loop-at
decreases-loop-at l = l.span.to - l.at
