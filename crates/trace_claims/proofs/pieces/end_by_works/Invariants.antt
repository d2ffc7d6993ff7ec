-- The end by those so far.
use Rattle.std.proofs.Common.{length, ◌-◌, ◌≤◌}
use Rattle.trace_claims.specs.Pieces.{IsPieceOfWorks}
use Rattle.trace_claims.proofs.pieces.end_by_works.Given as goal

abbrev pub invariant-loop-at : goal.invariant-loop-at
invariant-loop-at l = record { within : l.at ≤ length l.operations; known : IsPieceOfWorks l.operations l.at l.from l.most l.end }

abbrev pub decreases-loop-at : goal.decreases-loop-at
decreases-loop-at l = length l.operations - l.at
