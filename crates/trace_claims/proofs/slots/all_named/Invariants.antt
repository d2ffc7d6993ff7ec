-- So far each operation has its file.
use Rattle.std.proofs.Common.{length, ◌-◌, ◌≤◌, ◌≡◌}
use Rattle.claims.specs.Modes.{Modes}
use Rattle.trace_claims.proofs.Namings.{NamedUpTo}
use Rattle.trace_claims.proofs.slots.all_named.Given as goal

abbrev pub invariant-loop-at : goal.invariant-loop-at
invariant-loop-at l = record { within : l.at ≤ length l.courses; named : (m : Modes) → m.nocto ≡ l.nocto → NamedUpTo m l.entries l.courses l.at l.all.items }

abbrev pub decreases-loop-at : goal.decreases-loop-at
decreases-loop-at l = length l.courses - l.at
