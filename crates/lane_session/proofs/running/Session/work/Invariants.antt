use Rattle.std.proofs.Common.{◌≤◌}
use Rattle.lane_session.specs.Going.{GoesOn}
use Rattle.lane_session.specs.Holding.{IsHeld, tries_left}
use Rattle.lane_session.specs.Streams.{Passes}
use Rattle.lane_session.specs.Ports.{KeepsPort}
use Rattle.lane_session.proofs.running.Session.work.Given as goal

abbrev pub invariant-working : goal.invariant-working
invariant-working g l = record {
  held : IsHeld l.script l.self;
  goes : Passes (g.C.Clock.readings l.fn.clock) (g.C.Clock.readings l.clock) (g.L.Link.told l.fn.link) (g.L.Link.told l.link) (g.K.Sink.written l.fn.out) (g.K.Sink.written l.out) (GoesOn l.label l.script l.fn.self l.self);
  dials : KeepsPort l.fn.self.port l.self.port (g.L.Link.told l.fn.link) (g.L.Link.told l.link);
  stays : (first : g.row.L.Denot) → g.L.Link.stays first l.fn.link → g.L.Link.stays first l.link;
  honest : g.L.Link.honest l.fn.link → g.L.Link.honest l.link;
  later : g.K.Sink.faults l.fn.out ≤ g.K.Sink.faults l.out;
}

abbrev pub decreases-working : goal.decreases-working
decreases-working g l = tries_left l.self
