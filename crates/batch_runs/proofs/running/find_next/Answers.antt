use Rattle.batch_runs.proofs.Answering.{found-asked, found-less, found-so}
use Rattle.batch_runs.proofs.Causing.{all-caused}
use Rattle.batch_runs.proofs.Joining.{next-or-not}
use Rattle.batch_runs.proofs.OneRuns.{room-said}
use Rattle.batch_runs.proofs.running.find_next.Goals as goal

pub go_to-requires-clause-few : goal.go_to-requires-clause-few
go_to-requires-clause-few g c =
    let r = rw c.in-Ok-Some.field-0-is at c.in-Ok-Some.ensures in
    r.asked.few

pub returns-in-Ok-Some-clause-finds : goal.returns-in-Ok-Some-clause-finds
returns-in-Ok-Some-clause-finds g c =
    let r = rw c.in-Ok-Some.field-0-is at c.in-Ok-Some.ensures in
    room-said _ _ _ _ _ _ c.in-Ok-Some.next c.go_to.result c.go_to.ensures.same r.finds

pub returns-in-Ok-Some-clause-asked : goal.returns-in-Ok-Some-clause-asked
returns-in-Ok-Some-clause-asked g c =
    let r = rw c.in-Ok-Some.field-0-is at c.in-Ok-Some.ensures in
    found-asked c.in-Ok-Some.next c.go_to.result c.go_to.ensures.same r.asked

pub returns-in-Ok-Some-clause-stands : goal.returns-in-Ok-Some-clause-stands
returns-in-Ok-Some-clause-stands g c = next-or-not c.args.script.now c.in-Ok-Some.next c.go_to.result _ _ c.go_to.ensures.same c.go_to.ensures.stands

pub returns-in-Ok-Some-clause-held : goal.returns-in-Ok-Some-clause-held
returns-in-Ok-Some-clause-held g c = found-so _ c.in-Ok-Some.next c.go_to.result c.go_to.ensures.same c.go_to.ensures.held

pub returns-in-Ok-Some-clause-less : goal.returns-in-Ok-Some-clause-less
returns-in-Ok-Some-clause-less g c =
    let r = rw c.in-Ok-Some.field-0-is at c.in-Ok-Some.ensures in
    found-less _ c.go_to.result r.less

pub returns-in-Ok-Some-clause-cause : goal.returns-in-Ok-Some-clause-cause
returns-in-Ok-Some-clause-cause g c = all-caused _ c.go_to.result _ _ _ _ (λ x. absurd x) (λ x. absurd x) c.go_to.ensures.memory
