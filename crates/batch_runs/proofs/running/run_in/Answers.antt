use Rattle.std.proofs.Common.{ℕ, arith}
use Rattle.lane_session.proofs.Ports.{keeps_none, keeps_then}
use Rattle.batch_runs.proofs.Causing.{caused-behind}
use Rattle.batch_runs.proofs.InSteps.{in-ends, in-none, in-on, in-stops}
use Rattle.batch_runs.proofs.running.run_in.Goals as goal

pub running-init : goal.running-init
running-init g c = record {
  may = c.requires.run;
  held = c.requires.held;
  worst = c.requires.worst;
  runs = in-none _ _ _ c.args.count c.args.first c.args.session.now c.args.answered.now _;
  dials = keeps_none _ _;
  stays = λ first s. s;
  honest = λ x. x;
  read = omega arith;
  written = omega arith;
}

pub running-smaller : goal.running-smaller
running-smaller g c = rw c.in-Ok-Some.field-0-is at c.in-Ok-Some.ensures.less

pub running-preserved : goal.running-preserved
running-preserved g c =
    let i = c.running.invariant in
    let r = rw c.in-Ok-Some.field-0-is at c.in-Ok-Some.ensures in
    record {
      may = r.asked;
      held = r.held;
      worst = r.worst;
      runs = in-on _ _ _ _ _ _ _ _ _ c.args.count c.args.first c.args.session.now c.running.session c.run_next.new.session c.args.answered.now c.running.answered c.run_next.new.answered
          c.running.script i.may.asked _ _ _ i.runs c.in-Ok-Some.next r.runs;
      dials = keeps_then _ _ _ _ _ _ i.dials r.dials;
      stays = λ first s. r.stays first (i.stays first s);
      honest = λ x. r.honest (i.honest x);
      read = let a = i.read in let b = r.read in omega (arith, a, b);
      written = let a = i.written in let b = r.written in omega (arith, a, b);
    }

pub returns-in-Ok-None-clause-runs : goal.returns-in-Ok-None-clause-runs
returns-in-Ok-None-clause-runs g c =
    let i = c.running.invariant in
    let r = rw c.in-Ok-None.field-0-is at c.in-Ok-None.ensures in
    in-ends _ _ _ _ _ _ _ _ _ c.args.count c.args.first c.args.session.now c.running.session c.run_next.new.session c.args.answered.now c.running.answered c.run_next.new.answered
    c.running.script i.may.asked _ _ _ i.runs r.runs

pub returns-in-Ok-None-clause-dials : goal.returns-in-Ok-None-clause-dials
returns-in-Ok-None-clause-dials g c = keeps_then _ _ _ _ _ _ c.running.invariant.dials c.in-Ok-None.ensures.dials

pub returns-in-Err-clause-runs : goal.returns-in-Err-clause-runs
returns-in-Err-clause-runs g c =
    let i = c.running.invariant in
    in-stops _ _ _ _ _ _ _ _ _ c.args.count c.args.first c.args.session.now c.running.session c.run_next.new.session c.args.answered.now c.running.answered c.run_next.new.answered
    c.running.script i.may.asked _ _ _ i.runs c.in-Err.stop c.in-Err.ensures.runs

pub returns-in-Err-clause-dials : goal.returns-in-Err-clause-dials
returns-in-Err-clause-dials g c = keeps_then _ _ _ _ _ _ c.running.invariant.dials c.in-Err.ensures.dials

pub returns-in-Err-clause-cause : goal.returns-in-Err-clause-cause
returns-in-Err-clause-cause g c = caused-behind ℕ ℕ c.in-Err.stop _ _ _ _ _ _ c.running.invariant.read c.running.invariant.written c.in-Err.ensures.cause
