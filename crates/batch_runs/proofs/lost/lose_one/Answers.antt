use Rattle.std.proofs.Common.{ℕ, [], Ok, Err}
use Rattle.lane_session.specs.Losing.{by_lanes}
use Rattle.lane_session.proofs.Ports.{dials_loses}
use Rattle.batch_runs.proofs.Causing.{all-caused, halt-caused, rose-before}
use Rattle.batch_runs.proofs.LostRuns.{lost-cut, lost-told}
use Rattle.batch_runs.proofs.lost.lose_one.Goals as goal

pub returns-in-Err-clause-runs : goal.returns-in-Err-clause-runs
returns-in-Err-clause-runs g c = lost-cut _ _ _ _ _ _ c.args.count c.args.script.now c.args.tally.now c.args.answered.now c.in-Err.halt c.of_halt.result c.of_halt.ensures c.in-Err.ensures.goes

pub returns-in-Err-clause-dials : goal.returns-in-Err-clause-dials
returns-in-Err-clause-dials g c = λ port. let p = c.in-Err.ensures.goes in dials_loses port _ _ [] (by_lanes 16 c.args.script.now) (Err c.in-Err.halt) p.given p.text p.told

pub returns-in-Err-clause-cause : goal.returns-in-Err-clause-cause
returns-in-Err-clause-cause g c = halt-caused ℕ ℕ c.in-Err.halt c.of_halt.result _ c.of_halt.ensures c.in-Err.ensures.cause

pub returns-clause-runs : goal.returns-clause-runs
returns-clause-runs g c = lost-told _ _ _ _ _ _ c.args.count c.args.script.now c.args.tally.now c.args.answered.now _ c.finish.new.answered c.finish.result c.lost_status.result c.lost_status.ensures.is
    c.in-Ok.ensures.goes c.finish.ensures.one

pub returns-clause-dials : goal.returns-clause-dials
returns-clause-dials g c = λ port. let p = c.in-Ok.ensures.goes in dials_loses port _ _ [] (by_lanes 16 c.args.script.now) (Ok tt) p.given p.text p.told

pub returns-clause-cause : goal.returns-clause-cause
returns-clause-cause g c = all-caused _ c.finish.result _ _ _ _ (λ x. x) (λ x. rose-before _ _ _ c.in-Ok.ensures.later x) c.finish.ensures.cause
