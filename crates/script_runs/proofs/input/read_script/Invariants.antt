use Rattle.std.proofs.Common.{length, ◌+◌, ◌≤◌, ◌≡◌}
use Rattle.script_runs.specs.Streams.{HasTaken}
use Rattle.script_runs.proofs.input.read_script.Given as goal

abbrev pub invariant-loop-room : goal.invariant-loop-room
invariant-loop-room g l = record {
  long : length l.text.items + l.room ≡ 1048577;
  taken : HasTaken (g.S.Source.left l.fn.source) (g.S.Source.left l.source) l.text.items;
  later : g.S.Source.faults l.fn.source ≤ g.S.Source.faults l.source;
}

abbrev pub decreases-loop-room : goal.decreases-loop-room
decreases-loop-room g l = l.room
