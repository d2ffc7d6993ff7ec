use Rattle.std.proofs.Common.{ℕ}
use Rattle.batch_runs.proofs.Causing.{all-caused, rose-before, stop-caused}
use Rattle.batch_runs.proofs.OneRuns.{found-passes, port-same, stop-passes}
use Rattle.batch_runs.proofs.running.run_next.Goals as goal

pub returns-in-Ok-clause-runs : goal.returns-in-Ok-clause-runs
returns-in-Ok-clause-runs g c =
    found-passes _ _ _ _ _ _ c.args.count c.args.script.now c.args.session.now c.run_one.new.session c.find_next.new.session c.args.answered.now c.run_one.new.answered c.find_next.new.answered _ _ _ c.find_next.result
    c.find_next.ensures.stands c.in-Ok.ensures.runs c.find_next.ensures.finds

pub returns-in-Ok-clause-dials : goal.returns-in-Ok-clause-dials
returns-in-Ok-clause-dials g c = port-same _ _ _ _ _ c.in-Ok.ensures.dials c.find_next.ensures.port

pub returns-in-Ok-clause-cause : goal.returns-in-Ok-clause-cause
returns-in-Ok-clause-cause g c = all-caused _ c.find_next.result _ _ _ _ (λ x. x) (λ x. rose-before _ _ _ c.in-Ok.ensures.written x) c.find_next.ensures.cause

pub returns-in-Err-clause-runs : goal.returns-in-Err-clause-runs
returns-in-Err-clause-runs g c = stop-passes _ _ _ _ _ _ c.args.count c.args.script.now c.args.session.now c.run_one.new.session c.args.answered.now c.run_one.new.answered _ c.in-Err.stop c.in-Err.ensures.runs

pub returns-in-Err-clause-cause : goal.returns-in-Err-clause-cause
returns-in-Err-clause-cause g c = stop-caused ℕ ℕ c.in-Err.stop _ _ _ _ (λ x. absurd x) (λ x. x) c.in-Err.ensures.cause
