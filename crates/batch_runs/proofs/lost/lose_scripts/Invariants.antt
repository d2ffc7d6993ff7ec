use Rattle.std.proofs.Common.{◌≤◌, ℕ}
use Rattle.lane_session.specs.Streams.{Passes}
use Rattle.link_dials.specs.Dials.{DialsOnly}
use Rattle.script_batches.specs.Batches.{work_left}
use Rattle.batch_runs.specs.Parts.{IsWorst}
use Rattle.batch_runs.specs.Reading.{MayRun, left_in}
use Rattle.batch_runs.proofs.LostRuns.{LostRead}
use Rattle.batch_runs.proofs.lost.lose_scripts.Given as goal

abbrev pub invariant-losing : goal.invariant-losing
invariant-losing g l = record {
  may : MayRun l.script;
  worst : IsWorst l.answered.status;
  runs : Passes (g.C.Clock.readings l.fn.clock) (g.C.Clock.readings l.clock) (g.L.Link.told l.fn.link) (g.L.Link.told l.link) (g.K.Sink.written l.fn.out) (g.K.Sink.written l.out)
      (LostRead l.count l.fn.first l.tally l.fn.answered l.answered l.script (left_in (g.S.Source.left l.fn.source) l.fn.batches) (left_in (g.S.Source.left l.source) l.batches));
  dials : (port : ℕ) → DialsOnly port (g.L.Link.told l.fn.link) (g.L.Link.told l.link);
  stays : (first : g.row.L.Denot) → g.L.Link.stays first l.fn.link → g.L.Link.stays first l.link;
  honest : g.L.Link.honest l.fn.link → g.L.Link.honest l.link;
  read : g.S.Source.faults l.fn.source ≤ g.S.Source.faults l.source;
  written : g.K.Sink.faults l.fn.out ≤ g.K.Sink.faults l.out;
}

abbrev pub decreases-losing : goal.decreases-losing
decreases-losing g l = work_left l.batches.held
