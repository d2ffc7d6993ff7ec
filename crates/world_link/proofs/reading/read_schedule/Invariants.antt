use Rattle.std.proofs.Common.{◌≡◌, length, ◌≤◌, ◌+◌}
use Rattle.script_text.specs.Lines.{lines}
use Rattle.world_link.specs.Readings.{after_lines, read_of, read_view}
use Rattle.world_link.proofs.reading.read_schedule.Given as goal

abbrev pub invariant-loop-rest : goal.invariant-loop-rest
invariant-loop-rest l = record {
  bound : l.number + length l.rest ≤ length l.fn.text;
  read : read_of l.fn.text ≡ after_lines l.number (read_view l.schedule) (lines l.rest);
}

abbrev pub decreases-loop-rest : goal.decreases-loop-rest
decreases-loop-rest l = length l.rest
