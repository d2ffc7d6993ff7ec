use Rattle.batch_runs.proofs.Answering.{batch-taken}
use Rattle.batch_runs.proofs.Causing.{all-caused}
use Rattle.batch_runs.proofs.reading.next_batch.Goals as goal

pub returns-in-Ok-Some-clause-next : goal.returns-in-Ok-Some-clause-next
returns-in-Ok-Some-clause-next g c =
    let r = rw c.in-Ok-Some.field-0-is at c.in-Ok-Some.ensures.gives in
    batch-taken _ _ _ _ c.in-Ok-Some.batch c.script_in.result r c.script_in.ensures.is

pub returns-in-Ok-Some-clause-cause : goal.returns-in-Ok-Some-clause-cause
returns-in-Ok-Some-clause-cause g c = all-caused _ c.script_in.result _ _ _ _ (λ x. absurd x) (λ x. x) c.script_in.ensures.cause
