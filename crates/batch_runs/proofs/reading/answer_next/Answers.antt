use Rattle.batch_runs.proofs.Answering.{answers-cut, answers-end, answers-refused, answers-script}
use Rattle.batch_runs.proofs.reading.answer_next.Goals as goal

pub returns-in-Script-clause-answers : goal.returns-in-Script-clause-answers
returns-in-Script-clause-answers g c = rw c.in-Script.is (answers-script _ _ _)

pub returns-in-Ok-clause-answers : goal.returns-in-Ok-clause-answers
returns-in-Ok-clause-answers g c = rw c.in-Refused.is (answers-refused _ _ _ _ _ c.in-Ok.ensures.one)

pub returns-in-Err-clause-answers : goal.returns-in-Err-clause-answers
returns-in-Err-clause-answers g c = rw c.in-Refused.is (answers-cut _ _ _ _ _ _ c.in-Err.ensures.one)

pub returns-in-End-clause-answers : goal.returns-in-End-clause-answers
returns-in-End-clause-answers g c = rw c.in-End.is (answers-end _ _)
