use Rattle.std.proofs.Common.{inl, []}
use Rattle.asked_runs.proofs.Opens.{none-says, some-says, stop-says}
use Rattle.asked_runs.proofs.top.run_all.Goals as goal

pub returns-in-Ok-Some-clause-runs : goal.returns-in-Ok-Some-clause-runs
returns-in-Ok-Some-clause-runs g c =
    let r = rw c.in-Ok-Some.field-0-is at c.in-Ok-Some.ensures in
    some-says _ _ _ _ _ _ c.args.settings.now _ (λ rounds since. since c.args.asker.now (r.goes c.args.asker.now [] (g.met.A.Asker.none c.args.asker.now))) c.open.ensures.runs

pub returns-in-Ok-None-clause-runs : goal.returns-in-Ok-None-clause-runs
returns-in-Ok-None-clause-runs g c =
    let r = rw c.in-Ok-None.field-0-is at c.in-Ok-None.ensures in
    none-says _ _ _ c.args.settings.now c.status.result (r.goes c.args.asker.now [] (g.met.A.Asker.none c.args.asker.now)) c.status.ensures.few

pub returns-in-Ok-None-clause-statuses : goal.returns-in-Ok-None-clause-statuses
returns-in-Ok-None-clause-statuses g c = inl (inl c.status.ensures.few)

pub returns-in-Err-clause-runs : goal.returns-in-Err-clause-runs
returns-in-Err-clause-runs g c = stop-says _ _ _ c.args.settings.now
