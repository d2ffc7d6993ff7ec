use Rattle.std.proofs.Common.{ℕ}
use Rattle.batch_runs.proofs.Causing.{all-caused, halt-caused, rose-before}
use Rattle.batch_runs.proofs.Joining.{worst-of}
use Rattle.batch_runs.proofs.OneRuns.{cut-passes, ran-passes}
use Rattle.batch_runs.proofs.running.run_one.Goals as goal

pub finish-requires-clause-status : goal.finish-requires-clause-status
finish-requires-clause-status g c = rw c.status.ensures (worst-of _ c.in-Ok.ensures.held.status)

pub returns-in-Err-clause-runs : goal.returns-in-Err-clause-runs
returns-in-Err-clause-runs g c = cut-passes _ _ _ _ _ _ c.args.count c.args.script.now c.args.session.now c.work.new.self c.args.answered.now c.in-Err.halt c.of_halt.result c.of_halt.ensures c.in-Err.ensures.goes

pub returns-in-Err-clause-cause : goal.returns-in-Err-clause-cause
returns-in-Err-clause-cause g c = halt-caused ℕ ℕ c.in-Err.halt c.of_halt.result _ c.of_halt.ensures c.in-Err.ensures.cause

pub returns-clause-runs : goal.returns-clause-runs
returns-clause-runs g c =
    ran-passes _ _ _ _ _ _ c.args.count c.args.script.now c.args.session.now c.work.new.self c.args.answered.now _ c.finish.new.answered c.finish.result c.tally.result c.status.result c.tally.ensures c.status.ensures
    (record { idle = c.in-Ok.ensures.idle; quiet = c.in-Ok.ensures.quiet; held = c.in-Ok.ensures.held }) c.in-Ok.ensures.goes c.finish.ensures.one

pub returns-clause-cause : goal.returns-clause-cause
returns-clause-cause g c = all-caused _ c.finish.result _ _ _ _ (λ x. x) (λ x. rose-before _ _ _ c.in-Ok.ensures.later x) c.finish.ensures.cause
