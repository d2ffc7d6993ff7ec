use Rattle.asked_runs.proofs.running.find_next.Goals as goal

pub go_over-requires-clause-few : goal.go_over-requires-clause-few
go_over-requires-clause-few g c =
    let r = rw c.in-Ok-Some.field-0-is at c.in-Ok-Some.ensures in
    r.may.few
