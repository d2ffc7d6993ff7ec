use Rattle.lane_session.proofs.Ports.{keeps_none, keeps_then}
use Rattle.asked_runs.proofs.InSteps.{in-ends, in-full, in-none, in-on, in-stops}
use Rattle.asked_runs.proofs.Tops.{ends-own}
use Rattle.asked_runs.proofs.running.run_in.Goals as goal

pub loop-init : goal.loop-init
loop-init g c = record {
  may = c.requires.run;
  held = c.requires.held;
  runs = in-none g.row.A.Denot g.A.Asker.asks c.args.first c.args.asker.now c.args.session.now _ _;
  asker = λ first s. s;
  dials = keeps_none _ _;
  stays = λ first s. s;
  honest = λ x. x;
}

pub loop-preserved : goal.loop-preserved
loop-preserved g c =
    let i = c.loop.invariant in
    let r = rw c.in-Ok-Some.field-0-is at c.in-Ok-Some.ensures in
    record {
      may = r.may;
      held = r.held;
      runs = in-on g.row.A.Denot g.A.Asker.asks c.args.first c.args.asker.now c.args.session.now _ _ _ _ _ _ c.loop.asker c.run_next.new.asker c.loop.script i.may.asked
          c.loop.session c.run_next.new.session i.runs c.in-Ok-Some.next r.runs;
      asker = λ first s. r.asker first (i.asker first s);
      dials = keeps_then _ _ _ _ _ _ i.dials r.dials;
      stays = λ first s. r.stays first (i.stays first s);
      honest = λ x. r.honest (i.honest x);
    }

pub returns-in-Ok-None-clause-runs : goal.returns-in-Ok-None-clause-runs
returns-in-Ok-None-clause-runs g c =
    let i = c.loop.invariant in
    let r = rw c.in-Ok-None.field-0-is at c.in-Ok-None.ensures in
    in-ends g.row.A.Denot g.A.Asker.asks c.args.first c.args.asker.now c.args.session.now _ _ _ _ _ _ c.loop.asker c.run_next.new.asker c.loop.script i.may.asked
    c.loop.session c.run_next.new.session i.runs c.ending.result c.ending.ensures.is r.runs

pub returns-in-Ok-None-clause-statuses : goal.returns-in-Ok-None-clause-statuses
returns-in-Ok-None-clause-statuses g c = ends-own _ c.ending.result c.ending.ensures.is

pub returns-in-Ok-None-clause-dials : goal.returns-in-Ok-None-clause-dials
returns-in-Ok-None-clause-dials g c = keeps_then _ _ _ _ _ _ c.loop.invariant.dials c.in-Ok-None.ensures.dials

pub returns-in-Err-clause-runs : goal.returns-in-Err-clause-runs
returns-in-Err-clause-runs g c =
    let i = c.loop.invariant in
    in-stops g.row.A.Denot g.A.Asker.asks c.args.first c.args.asker.now c.args.session.now _ _ _ _ _ _ c.loop.asker c.run_next.new.asker c.loop.script i.may.asked
    c.loop.session c.run_next.new.session i.runs c.in-Err.memory c.in-Err.ensures.runs

pub returns-in-Err-clause-dials : goal.returns-in-Err-clause-dials
returns-in-Err-clause-dials g c = keeps_then _ _ _ _ _ _ c.loop.invariant.dials c.in-Err.ensures.dials

pub returns-clause-runs : goal.returns-clause-runs
returns-clause-runs g c =
    let i = c.loop.invariant in
    in-full g.row.A.Denot g.A.Asker.asks c.args.first c.args.asker.now c.args.session.now _ _ _ _ c.loop.asker c.loop.script i.may.asked c.loop.session (record {}) i.held i.runs
