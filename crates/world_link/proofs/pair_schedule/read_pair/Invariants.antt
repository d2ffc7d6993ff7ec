use Rattle.std.proofs.Common.{◌≡◌, length, ◌≤◌, ◌+◌}
use Rattle.script_text.specs.Lines.{lines}
use Rattle.world_link.specs.Orders.{after_pair_lines, pair_read_of, pair_read_view}
use Rattle.world_link.proofs.pair_schedule.read_pair.Given as goal

abbrev pub invariant-loop-rest : goal.invariant-loop-rest
invariant-loop-rest l = record {
  bound : l.number + length l.rest ≤ length l.fn.text;
  read : pair_read_of l.fn.text ≡ after_pair_lines l.number (pair_read_view l.schedule) (lines l.rest);
}

abbrev pub decreases-loop-rest : goal.decreases-loop-rest
decreases-loop-rest l = length l.rest
