use Rattle.std.proofs.Common.{arith}
use Rattle.batch_runs.proofs.Idling.{idle-cut, idle-passed, idle-told}
use Rattle.batch_runs.proofs.reading.answer_idle.Goals as goal

pub returns-then-count-gt0-clause-answers : goal.returns-then-count-gt0-clause-answers
returns-then-count-gt0-clause-answers g c = idle-passed _ _ _ _ (omega (arith, c.count.ensures, c.if-count-gt0.true))

pub returns-in-Ok-clause-answers : goal.returns-in-Ok-clause-answers
returns-in-Ok-clause-answers g c = idle-told _ _ _ _ _ _ (omega (arith, c.count.ensures, c.if-count-gt0.false)) c.in-Ok.ensures.one

pub returns-in-Err-clause-answers : goal.returns-in-Err-clause-answers
returns-in-Err-clause-answers g c = idle-cut _ _ _ _ _ _ _ (omega (arith, c.count.ensures, c.if-count-gt0.false)) c.in-Err.ensures.one
