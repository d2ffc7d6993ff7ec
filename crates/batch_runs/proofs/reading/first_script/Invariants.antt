use Rattle.std.proofs.Common.{◌≤◌}
use Rattle.script_batches.specs.Batches.{work_left}
use Rattle.script_runs.specs.Run.{Says}
use Rattle.batch_runs.specs.Parts.{AreIdleFrom, IsWorst}
use Rattle.batch_runs.specs.Reading.{AnswersAll, left_in}
use Rattle.batch_runs.proofs.reading.first_script.Given as goal

abbrev pub invariant-reading : goal.invariant-reading
invariant-reading g l = record {
  all : Says (g.K.Sink.written l.fn.out) (g.K.Sink.written l.out)
      (AnswersAll (AreIdleFrom l.count) l.fn.answered l.answered (left_in (g.S.Source.left l.fn.source) l.fn.batches) (left_in (g.S.Source.left l.source) l.batches));
  worst : IsWorst l.answered.status;
  never : work_left l.batches.held ≤ work_left l.fn.batches.held;
  read : g.S.Source.faults l.fn.source ≤ g.S.Source.faults l.source;
  written : g.K.Sink.faults l.fn.out ≤ g.K.Sink.faults l.out;
}

abbrev pub decreases-reading : goal.decreases-reading
decreases-reading g l = work_left l.batches.held
