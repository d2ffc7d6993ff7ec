-- None so far.
use Rattle.std.proofs.Common.{length, ◌-◌, ◌≤◌}
use Rattle.trace_answers.specs.Tests.{sends_at, NoneBelow}
use Rattle.trace_answers.proofs.records.first_sending.Given as goal

abbrev pub invariant-loop-next : goal.invariant-loop-next
invariant-loop-next l = record { within : l.next ≤ length l.entries; none : NoneBelow (sends_at l.entries l.xid) l.next }

abbrev pub decreases-loop-next : goal.decreases-loop-next
decreases-loop-next l = length l.entries - l.next
