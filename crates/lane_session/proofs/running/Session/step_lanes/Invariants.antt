use Rattle.std.proofs.Common.{◌≡◌, ◌≤◌, ◌<◌, ℕ, length}
use Rattle.world_model.specs.Told.{Relates}
use Rattle.lane_session.specs.Going.{GoesOn}
use Rattle.lane_session.specs.Holding.{IsHeld, IsQuiet, SameTries}
use Rattle.lane_session.specs.Places.{lines_left}
use Rattle.lane_session.specs.Streams.{Passes}
use Rattle.lane_session.specs.Ports.{KeepsPort}
use Rattle.lane_session.specs.Turns.{AddsMarks}
use Rattle.lane_session.proofs.running.Session.step_lanes.Given as goal

abbrev pub invariant-loop-index : goal.invariant-loop-index
invariant-loop-index g l = record {
  held : IsHeld l.script l.self;
  core : l.self.core ≡ l.fn.self.core;
  tries : SameTries l.fn.self l.self;
  lines : lines_left (length l.script) l.self.lanes ≤ lines_left (length l.script) l.fn.self.lanes;
  quiet : (n : ℕ) → n < l.index → IsQuiet l.script l.self n;
  goes : Passes (g.C.Clock.readings l.fn.clock) (g.C.Clock.readings l.clock) (g.L.Link.told l.fn.link) (g.L.Link.told l.link) (g.K.Sink.written l.fn.out) (g.K.Sink.written l.out) (GoesOn l.label l.script l.fn.self l.self);
  marks : Relates (g.L.Link.told l.fn.link) (g.L.Link.told l.link) AddsMarks;
  dials : KeepsPort l.fn.self.port l.self.port (g.L.Link.told l.fn.link) (g.L.Link.told l.link);
  stays : (first : g.row.L.Denot) → g.L.Link.stays first l.fn.link → g.L.Link.stays first l.link;
  honest : g.L.Link.honest l.fn.link → g.L.Link.honest l.link;
  later : g.K.Sink.faults l.fn.out ≤ g.K.Sink.faults l.out;
}
