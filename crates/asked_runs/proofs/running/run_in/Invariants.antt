use Rattle.lane_session.specs.Holding.{IsHeld}
use Rattle.lane_session.specs.Ports.{KeepsPort}
use Rattle.asked_runs.specs.Asking.{MayRun}
use Rattle.asked_runs.specs.Running.{Shows}
use Rattle.asked_runs.proofs.InSteps.{Since}
use Rattle.asked_runs.proofs.Steps.{UpIn}
use Rattle.asked_runs.proofs.running.run_in.Given as goal

abbrev pub invariant-loop : goal.invariant-loop
invariant-loop g l = record {
  may : MayRun l.script;
  held : IsHeld l.script l.session;
  runs : Shows (g.C.Clock.readings l.fn.clock) (g.C.Clock.readings l.clock) (g.L.Link.told l.fn.link) (g.L.Link.told l.link)
      (UpIn (Since g.row.A.Denot g.A.Asker.asks l.fn.first l.fn.asker l.asker) l.fn.first l.fn.session l.script l.session);
  asker : (first : g.row.A.Denot) → g.A.Asker.stays first l.fn.asker → g.A.Asker.stays first l.asker;
  dials : KeepsPort l.fn.session.port l.session.port (g.L.Link.told l.fn.link) (g.L.Link.told l.link);
  stays : (first : g.row.L.Denot) → g.L.Link.stays first l.fn.link → g.L.Link.stays first l.link;
  honest : g.L.Link.honest l.fn.link → g.L.Link.honest l.link;
}
