use Rattle.world_model.specs.Told.{Relates}
use Rattle.lane_session.specs.Bonds.{CoreGoes}
use Rattle.lane_session.specs.Running.{Quietly, Sends, dues}
use Rattle.lane_session.specs.Ports.{KeepsPort}
use Rattle.lane_session.proofs.running.Session.send_all.Given as goal

abbrev pub invariant-sending : goal.invariant-sending
invariant-sending g l = record {
  sends : Sends l.fn.self l.self;
  goes : Relates (g.L.Link.told l.fn.link) (g.L.Link.told l.link) Quietly;
  core : Relates (g.L.Link.told l.fn.link) (g.L.Link.told l.link) (CoreGoes l.fn.self l.self);
  dials : KeepsPort l.fn.self.port l.self.port (g.L.Link.told l.fn.link) (g.L.Link.told l.link);
  stays : (first : g.row.L.Denot) → g.L.Link.stays first l.fn.link → g.L.Link.stays first l.link;
  honest : g.L.Link.honest l.fn.link → g.L.Link.honest l.link;
}

abbrev pub decreases-sending : goal.decreases-sending
decreases-sending g l = dues l.self.core.calls.calls
