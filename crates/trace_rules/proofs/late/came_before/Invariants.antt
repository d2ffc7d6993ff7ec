-- So far each entry passes.
use Rattle.std.proofs.Common.{◌-◌, ◌≡◌, ◌≤◌, false}
use Rattle.trace_rules.specs.Decided.{any_below, delivers_at}
use Rattle.trace_rules.proofs.late.came_before.Given as goal

abbrev pub invariant-loop-i : goal.invariant-loop-i
invariant-loop-i l = record { within : l.i ≤ l.entry; all : any_below (λ i. delivers_at l.history l.xid i) l.i ≡ false }

abbrev pub decreases-loop-i : goal.decreases-loop-i
decreases-loop-i l = l.entry - l.i
