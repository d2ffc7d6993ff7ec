use Rattle.std.proofs.Common.{◌≤◌}
use Rattle.lane_session.specs.Streams.{Passes}
use Rattle.lane_session.proofs.LostLines.{LanesSo}
use Rattle.lane_session.proofs.lost_lines.lose_lines.Given as goal

abbrev pub invariant-loop-index : goal.invariant-loop-index
invariant-loop-index g l = record {
  goes : Passes (g.C.Clock.readings l.fn.clock) (g.C.Clock.readings l.clock) (g.L.Link.told l.fn.link) (g.L.Link.told l.link) (g.K.Sink.written l.fn.out) (g.K.Sink.written l.out)
      (LanesSo l.label l.script l.index);
  stays : (first : g.row.L.Denot) → g.L.Link.stays first l.fn.link → g.L.Link.stays first l.link;
  honest : g.L.Link.honest l.fn.link → g.L.Link.honest l.link;
  later : g.K.Sink.faults l.fn.out ≤ g.K.Sink.faults l.out;
}
