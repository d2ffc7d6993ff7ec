-- So far none is young.
use Rattle.std.proofs.Common.{◌-◌, length}
use Rattle.trace_claims.proofs.Clocking.{NoneBelow}
use Rattle.trace_claims.proofs.readings.first_young.Given as goal

abbrev pub invariant-loop-at : goal.invariant-loop-at
invariant-loop-at l = NoneBelow l.entries l.opened l.longest l.at

abbrev pub decreases-loop-at : goal.decreases-loop-at
decreases-loop-at l = length l.entries - l.at
