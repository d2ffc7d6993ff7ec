use Rattle.lane_session.proofs.Ports.{keeps_none}
use Rattle.asked_runs.proofs.Scripts.{script-cut, script-none, script-ran}
use Rattle.asked_runs.proofs.running.run_script.Goals as goal

pub returns-in_default-clause-runs : goal.returns-in_default-clause-runs
returns-in_default-clause-runs g c = script-none _ _ c.args.script.now c.args.session.now (record {}) c.requires.held

pub returns-in_default-clause-dials : goal.returns-in_default-clause-dials
returns-in_default-clause-dials g c = keeps_none _ _

pub returns-in-Ok-work-clause-runs : goal.returns-in-Ok-work-clause-runs
returns-in-Ok-work-clause-runs g c =
    script-ran _ _ _ _ c.args.script.now c.args.session.now c.work.new.self c.work.new.out
    (record { idle = c.in-Ok-work.ensures.idle; quiet = c.in-Ok-work.ensures.quiet; held = c.in-Ok-work.ensures.held }) (rw c.in-Ok.ensures at c.in-Ok-work.ensures.goes)

pub returns-in-Err-clause-runs : goal.returns-in-Err-clause-runs
returns-in-Err-clause-runs g c =
    script-cut _ _ _ _ c.args.script.now c.args.session.now c.work.new.self _ _ c.in-Err._halt (record {}) c.in-Err.ensures.goes
