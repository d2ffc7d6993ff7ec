use Rattle.std.proofs.Common.{ℕ, None, arith}
use Rattle.batch_runs.specs.Parts.{RefusedFrom}
use Rattle.batch_runs.proofs.Answering.{end-said, refused-said, script-said, stop-said}
use Rattle.batch_runs.proofs.Causing.{caused-behind}
use Rattle.batch_runs.proofs.Finding.{all-none}
use Rattle.batch_runs.proofs.Saying.{says-none}
use Rattle.batch_runs.proofs.reading.next_script.Goals as goal

pub reading-init : goal.reading-init
reading-init g c = record {
  all = says-none _ _ (all-none RefusedFrom c.args.answered.now _ tt);
  worst = c.requires.worst;
  never = omega arith;
  read = omega arith;
  written = omega arith;
}

pub reading-smaller : goal.reading-smaller
reading-smaller g c = rw c.in-Ok-Refused.field-0-is at c.in-Ok-Refused.ensures.less

pub reading-preserved : goal.reading-preserved
reading-preserved g c =
    let i = c.reading.invariant in
    let r = rw c.in-Ok-Refused.field-0-is at c.in-Ok-Refused.ensures in
    record {
      all = refused-said _ _ _ _ _ _ _ _ _ i.all _ r.takes;
      worst = r.worst;
      never = let a = i.never in let b = r.less in omega (arith, a, b);
      read = let a = i.read in let b = r.read in omega (arith, a, b);
      written = let a = i.written in let b = r.written in omega (arith, a, b);
    }

pub returns-in-Ok-Script-clause-finds : goal.returns-in-Ok-Script-clause-finds
returns-in-Ok-Script-clause-finds g c =
    let r = rw c.in-Ok-Script.field-0-is at c.in-Ok-Script.ensures in
    script-said _ _ _ _ _ _ _ _ _ c.reading.invariant.all c.in-Ok-Script.script r.takes

pub returns-in-Ok-End-clause-finds : goal.returns-in-Ok-End-clause-finds
returns-in-Ok-End-clause-finds g c =
    let r = rw c.in-Ok-End.field-0-is at c.in-Ok-End.ensures in
    end-said _ _ _ _ _ _ _ _ _ c.reading.invariant.all r.takes

pub returns-in-Err-clause-finds : goal.returns-in-Err-clause-finds
returns-in-Err-clause-finds g c = stop-said _ _ _ _ _ _ _ _ None c.reading.invariant.all c.in-Err.stop c.in-Err.ensures.takes

pub returns-in-Err-clause-cause : goal.returns-in-Err-clause-cause
returns-in-Err-clause-cause g c = caused-behind ℕ ℕ c.in-Err.stop _ _ _ _ _ _ c.reading.invariant.read c.reading.invariant.written c.in-Err.ensures.cause
