use Rattle.link_dials.proofs.Dialing.{dials_same}
use Rattle.script_runs.specs.LaneRuns.{setup_of}
use Rattle.script_runs.proofs.LaneRuns.{nothing-sound}
use Rattle.asked_runs.proofs.Over.{none-shows}
use Rattle.asked_runs.proofs.top.open_ready.Goals as goal

pub returns-in_default-clause-runs : goal.returns-in_default-clause-runs
returns-in_default-clause-runs g c = none-shows _ _ _ c.args.settings.now (setup_of c.args.settings.now c.args.ready) (record {}) c.requires.may nothing-sound

pub returns-in_default-clause-dials : goal.returns-in_default-clause-dials
returns-in_default-clause-dials g c = dials_same _ _

pub run_scripts-requires-clause-may : goal.run_scripts-requires-clause-may
run_scripts-requires-clause-may g c = rw c.in-Ok.ensures (c.requires.may)

pub returns-clause-runs : goal.returns-clause-runs
returns-clause-runs g c = rw c.in-Ok.ensures at c.run_scripts.ensures.runs
