use Rattle.batch_runs.proofs.Causing.{all-caused, rose-before}
use Rattle.batch_runs.proofs.Answering.{found-asked, found-less}
use Rattle.batch_runs.proofs.Idling.{idle-found, idle-none, idle-stopped}
use Rattle.batch_runs.proofs.reading.take_idle.Goals as goal

pub returns-in-Ok-Some-clause-takes : goal.returns-in-Ok-Some-clause-takes
returns-in-Ok-Some-clause-takes g c =
    let r = rw c.in-Ok-Some.field-0-is at c.in-Ok-Some.ensures in
    idle-found _ _ _ _ _ _ _ _ _ c.in-Ok-Some.script c.answer_idle.result c.answer_idle.ensures.same r.finds c.answer_idle.ensures.answers

pub returns-in-Ok-Some-clause-asked : goal.returns-in-Ok-Some-clause-asked
returns-in-Ok-Some-clause-asked g c =
    let r = rw c.in-Ok-Some.field-0-is at c.in-Ok-Some.ensures in
    found-asked c.in-Ok-Some.script c.answer_idle.result c.answer_idle.ensures.same r.asked

pub returns-in-Ok-Some-clause-less : goal.returns-in-Ok-Some-clause-less
returns-in-Ok-Some-clause-less g c =
    let r = rw c.in-Ok-Some.field-0-is at c.in-Ok-Some.ensures in
    found-less _ c.answer_idle.result r.less

pub returns-in-Ok-None-clause-takes : goal.returns-in-Ok-None-clause-takes
returns-in-Ok-None-clause-takes g c =
    let r = rw c.in-Ok-None.field-0-is at c.in-Ok-None.ensures in
    idle-none _ _ _ _ _ _ _ r.finds

pub returns-in-Err-clause-takes : goal.returns-in-Err-clause-takes
returns-in-Err-clause-takes g c = idle-stopped _ _ _ _ _ _ _ c.in-Err.stop c.in-Err.ensures.finds

pub returns-in-Ok-Some-clause-cause : goal.returns-in-Ok-Some-clause-cause
returns-in-Ok-Some-clause-cause g c =
    let r = rw c.in-Ok-Some.field-0-is at c.in-Ok-Some.ensures in
    all-caused _ c.answer_idle.result _ _ _ _ (λ x. absurd x) (λ x. rose-before _ _ _ r.written x) c.answer_idle.ensures.cause
