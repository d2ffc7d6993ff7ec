-- The text that is left.
use Rattle.std.proofs.Common.{◌≡◌, ◌≤◌, ◌+◌, length}
use Rattle.script_text.specs.Lines.{lines}
use Rattle.trace_text.specs.Reading.{after_lines, text_told}
use Rattle.trace_text.specs.Told.{told_by}
use Rattle.trace_text.proofs.reading.read.Given as goal

abbrev pub invariant-loop-left : goal.invariant-loop-left
invariant-loop-left l = record {
  bound : l.number + length l.left ≤ 1048576;
  read : after_lines l.number (told_by l.draft) (lines l.left) ≡ text_told l.fn.text;
}

abbrev pub decreases-loop-left : goal.decreases-loop-left
decreases-loop-left l = length l.left
