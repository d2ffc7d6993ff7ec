use Rattle.asked_runs.proofs.Scripts.{found-shows, port-same, stop-shows}
use Rattle.asked_runs.proofs.running.run_next.Goals as goal

pub returns-in-Ok-clause-runs : goal.returns-in-Ok-clause-runs
returns-in-Ok-clause-runs g c =
    found-shows _ _ _ _ _ c.args.script.now c.args.session.now c.run_script.new.session c.find_next.new.session c.in-Ok.answers c.find_next.result c.find_next.ensures.finds c.in-Ok.ensures.runs

pub returns-in-Ok-clause-dials : goal.returns-in-Ok-clause-dials
returns-in-Ok-clause-dials g c = port-same _ _ _ _ _ c.in-Ok.ensures.dials c.find_next.ensures.port

pub returns-in-Err-clause-runs : goal.returns-in-Err-clause-runs
returns-in-Err-clause-runs g c = stop-shows _ _ _ _ _ c.args.script.now c.args.session.now c.run_script.new.session c.run_script.new.session c.in-Err.memory c.in-Err.ensures.runs
