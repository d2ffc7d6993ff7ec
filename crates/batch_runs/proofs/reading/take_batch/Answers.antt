use Rattle.std.proofs.Common.{ℕ, None}
use Rattle.batch_runs.proofs.Answering.{batch-answered, batch-unread, same-asked, same-further}
use Rattle.batch_runs.proofs.Causing.{all-caused, stop-caused}
use Rattle.batch_runs.proofs.reading.take_batch.Goals as goal

pub returns-in-Ok-clause-takes : goal.returns-in-Ok-clause-takes
returns-in-Ok-clause-takes g c = batch-answered _ _ _ _ _ _ c.in-Ok.next c.answer_next.result c.in-Ok.ensures.next c.answer_next.ensures.answers

pub returns-in-Ok-clause-asked : goal.returns-in-Ok-clause-asked
returns-in-Ok-clause-asked g c = same-asked c.in-Ok.next c.answer_next.result c.answer_next.ensures.same c.in-Ok.ensures.asked

pub returns-in-Ok-clause-less : goal.returns-in-Ok-clause-less
returns-in-Ok-clause-less g c = same-further _ c.in-Ok.next c.answer_next.result c.answer_next.ensures.same c.in-Ok.ensures.less

pub returns-in-Err-clause-takes : goal.returns-in-Err-clause-takes
returns-in-Err-clause-takes g c = batch-unread _ _ _ None c.in-Err.stop

pub returns-in-Ok-clause-cause : goal.returns-in-Ok-clause-cause
returns-in-Ok-clause-cause g c = all-caused _ c.answer_next.result _ _ _ _ (λ x. absurd x) (λ x. x) c.answer_next.ensures.cause

pub returns-in-Err-clause-cause : goal.returns-in-Err-clause-cause
returns-in-Err-clause-cause g c = stop-caused ℕ ℕ c.in-Err.stop _ _ _ _ (λ x. x) (λ x. absurd x) c.in-Err.ensures.cause
