use Rattle.std.proofs.Common.{ℕ, arith}
use Rattle.link_dials.proofs.Dialing.{dials_same, dials_then}
use Rattle.batch_runs.proofs.Causing.{caused-behind}
use Rattle.batch_runs.proofs.LostRuns.{lose-ends, lose-none, lose-on, lose-stops}
use Rattle.batch_runs.proofs.lost.lose_scripts.Goals as goal

pub losing-init : goal.losing-init
losing-init g c = record {
  may = c.requires.run;
  worst = c.requires.worst;
  runs = lose-none _ _ _ c.args.count c.args.first c.args.tally c.args.answered.now _;
  dials = λ port. dials_same port _;
  stays = λ first s. s;
  honest = λ x. x;
  read = omega arith;
  written = omega arith;
}

pub losing-smaller : goal.losing-smaller
losing-smaller g c = rw c.in-Ok-Some.field-0-is at c.in-Ok-Some.ensures.less

pub losing-preserved : goal.losing-preserved
losing-preserved g c =
    let i = c.losing.invariant in
    let r = rw c.in-Ok-Some.field-0-is at c.in-Ok-Some.ensures in
    record {
      may = r.asked;
      worst = r.worst;
      runs = lose-on _ _ _ _ _ _ _ _ _ c.args.count c.args.first c.args.tally c.args.answered.now c.losing.answered c.lose_next.new.answered c.losing.script i.may.asked _ _ _ i.runs c.in-Ok-Some.next r.loses;
      dials = λ port. dials_then port _ _ _ (i.dials port) (r.dials port);
      stays = λ first s. r.stays first (i.stays first s);
      honest = λ x. r.honest (i.honest x);
      read = let a = i.read in let b = r.read in omega (arith, a, b);
      written = let a = i.written in let b = r.written in omega (arith, a, b);
    }

pub returns-in-Ok-None-clause-runs : goal.returns-in-Ok-None-clause-runs
returns-in-Ok-None-clause-runs g c =
    let i = c.losing.invariant in
    let r = rw c.in-Ok-None.field-0-is at c.in-Ok-None.ensures in
    lose-ends _ _ _ _ _ _ _ _ _ c.args.count c.args.first c.args.tally c.args.answered.now c.losing.answered c.lose_next.new.answered c.losing.script i.may.asked _ _ _ i.runs r.loses

pub returns-in-Ok-None-clause-dials : goal.returns-in-Ok-None-clause-dials
returns-in-Ok-None-clause-dials g c = λ port. dials_then port _ _ _ (c.losing.invariant.dials port) (c.in-Ok-None.ensures.dials port)

pub returns-in-Err-clause-runs : goal.returns-in-Err-clause-runs
returns-in-Err-clause-runs g c =
    let i = c.losing.invariant in
    lose-stops _ _ _ _ _ _ _ _ _ c.args.count c.args.first c.args.tally c.args.answered.now c.losing.answered c.lose_next.new.answered c.losing.script i.may.asked _ _ _ i.runs c.in-Err.stop
    c.in-Err.ensures.loses

pub returns-in-Err-clause-dials : goal.returns-in-Err-clause-dials
returns-in-Err-clause-dials g c = λ port. dials_then port _ _ _ (c.losing.invariant.dials port) (c.in-Err.ensures.dials port)

pub returns-in-Err-clause-cause : goal.returns-in-Err-clause-cause
returns-in-Err-clause-cause g c = caused-behind ℕ ℕ c.in-Err.stop _ _ _ _ _ _ c.losing.invariant.read c.losing.invariant.written c.in-Err.ensures.cause
