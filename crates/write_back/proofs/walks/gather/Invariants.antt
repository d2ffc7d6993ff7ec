use Rattle.std.proofs.Common.{◌≡◌, ◌-◌, ◌≤◌, length}
use Rattle.write_back.specs.Choice.{run_from, gathered, with_run}
use Rattle.write_back.specs.Pieces.{end_of_sent}
use Rattle.write_back.specs.Walk.{from_key}
use Rattle.write_back.proofs.walks.gather.Given as goal

abbrev pub invariant-loop-segment : goal.invariant-loop-segment
invariant-loop-segment l = record {
  fits : length l.piece.bytes ≤ l.room;
  goes : with_run l.piece (run_from l.sent l.upto l.how (end_of_sent l.piece) (l.room - length l.piece.bytes) (from_key (end_of_sent l.piece) l.map)) ≡ gathered l.xid l.first (run_from l.sent l.upto l.how l.first l.room (from_key l.first l.map)) l.how;
}

abbrev pub decreases-loop-segment : goal.decreases-loop-segment
decreases-loop-segment l = l.room - length l.piece.bytes
