-- No entry from here on begins an operation in the lane and line.
use Rattle.std.proofs.Common.{◌≡◌, ◌≤◌, length}
use Rattle.trace_text.specs.EntryLines.{last_shape}
use Rattle.trace_text.proofs.entry_lines.last_shape.Given as goal

abbrev pub invariant-loop-left : goal.invariant-loop-left
invariant-loop-left l = last_shape l.lane l.line l.entries (length l.entries) ≡ last_shape l.lane l.line l.entries l.left

abbrev pub decreases-loop-left : goal.decreases-loop-left
decreases-loop-left l = l.left
