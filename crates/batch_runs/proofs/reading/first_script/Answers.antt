use Rattle.std.proofs.Common.{ℕ, arith, refl}
use Rattle.batch_runs.specs.Parts.{AreIdleFrom}
use Rattle.batch_runs.proofs.Causing.{caused-behind}
use Rattle.batch_runs.proofs.Finding.{all-none}
use Rattle.batch_runs.proofs.Idling.{has-lines, idle-end-said, idle-on-said, idle-script-said, idle-stop-said}
use Rattle.batch_runs.proofs.Saying.{says-none}
use Rattle.batch_runs.proofs.reading.first_script.Goals as goal

pub reading-init : goal.reading-init
reading-init g c = record {
  all = says-none _ _ (all-none (AreIdleFrom c.args.count) c.args.answered.now _ (record { are = tt; lines = refl; entries = refl }));
  worst = c.requires.worst;
  never = omega arith;
  read = omega arith;
  written = omega arith;
}

pub reading-smaller : goal.reading-smaller
reading-smaller g c = rw c.in-Ok-Some.field-0-is at c.in-Ok-Some.ensures.less

pub reading-preserved : goal.reading-preserved
reading-preserved g c =
    let i = c.reading.invariant in
    let r = rw c.in-Ok-Some.field-0-is at c.in-Ok-Some.ensures in
    record {
      all = idle-on-said _ _ _ _ _ _ _ _ _ _ i.all c.in-Ok-Some.script (omega (arith, c.count.ensures, c.if-count-gt0.false)) r.takes;
      worst = r.worst;
      never = let a = i.never in let b = r.less in omega (arith, a, b);
      read = let a = i.read in let b = r.read in omega (arith, a, b);
      written = let a = i.written in let b = r.written in omega (arith, a, b);
    }

pub returns-then-count-gt0-clause-finds : goal.returns-then-count-gt0-clause-finds
returns-then-count-gt0-clause-finds g c =
    let r = rw c.in-Ok-Some.field-0-is at c.in-Ok-Some.ensures in
    idle-script-said _ _ _ _ _ _ _ _ _ _ c.reading.invariant.all c.in-Ok-Some.script (has-lines _ (omega (arith, c.count.ensures, c.if-count-gt0.true))) r.takes

pub returns-then-count-gt0-clause-some : goal.returns-then-count-gt0-clause-some
returns-then-count-gt0-clause-some g c = has-lines _ (omega (arith, c.count.ensures, c.if-count-gt0.true))

pub returns-in-Ok-None-clause-finds : goal.returns-in-Ok-None-clause-finds
returns-in-Ok-None-clause-finds g c =
    let r = rw c.in-Ok-None.field-0-is at c.in-Ok-None.ensures in
    idle-end-said _ _ _ _ _ _ _ _ _ _ c.reading.invariant.all r.takes

pub returns-in-Err-clause-finds : goal.returns-in-Err-clause-finds
returns-in-Err-clause-finds g c = idle-stop-said _ _ _ _ _ _ _ _ _ _ c.reading.invariant.all c.in-Err.stop c.in-Err.ensures.takes

pub returns-in-Err-clause-cause : goal.returns-in-Err-clause-cause
returns-in-Err-clause-cause g c = caused-behind ℕ ℕ c.in-Err.stop _ _ _ _ _ _ c.reading.invariant.read c.reading.invariant.written c.in-Err.ensures.cause
