-- None came from there on.
use Rattle.std.proofs.Common.{◌≤◌}
use Rattle.trace_answers.proofs.Sendings.{NoneSince}
use Rattle.trace_answers.proofs.records.last_record.Given as goal

abbrev pub invariant-loop-left : goal.invariant-loop-left
invariant-loop-left l = record { within : l.left ≤ l.place; none : NoneSince l.entries l.left l.place }

abbrev pub decreases-loop-left : goal.decreases-loop-left
decreases-loop-left l = l.left
