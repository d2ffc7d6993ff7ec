use Rattle.std.proofs.Common.{◌≤◌}
use Rattle.lane_session.specs.Holding.{IsHeld}
use Rattle.lane_session.specs.Ports.{KeepsPort}
use Rattle.lane_session.specs.Streams.{Passes}
use Rattle.script_batches.specs.Batches.{work_left}
use Rattle.batch_runs.specs.Parts.{IsWorst}
use Rattle.batch_runs.specs.Reading.{MayRun, left_in}
use Rattle.batch_runs.proofs.InSteps.{UpRead}
use Rattle.batch_runs.proofs.running.run_in.Given as goal

abbrev pub invariant-running : goal.invariant-running
invariant-running g l = record {
  may : MayRun l.script;
  held : IsHeld l.script l.session;
  worst : IsWorst l.answered.status;
  runs : Passes (g.C.Clock.readings l.fn.clock) (g.C.Clock.readings l.clock) (g.L.Link.told l.fn.link) (g.L.Link.told l.link) (g.K.Sink.written l.fn.out) (g.K.Sink.written l.out)
      (UpRead l.count l.fn.first l.fn.session l.fn.answered l.answered l.script (left_in (g.S.Source.left l.fn.source) l.fn.batches)
      (left_in (g.S.Source.left l.source) l.batches) l.session);
  dials : KeepsPort l.fn.session.port l.session.port (g.L.Link.told l.fn.link) (g.L.Link.told l.link);
  stays : (first : g.row.L.Denot) → g.L.Link.stays first l.fn.link → g.L.Link.stays first l.link;
  honest : g.L.Link.honest l.fn.link → g.L.Link.honest l.link;
  read : g.S.Source.faults l.fn.source ≤ g.S.Source.faults l.source;
  written : g.K.Sink.faults l.fn.out ≤ g.K.Sink.faults l.out;
}

abbrev pub decreases-running : goal.decreases-running
decreases-running g l = work_left l.batches.held
