use Rattle.lane_session.proofs.Ending.{fresh-held}
use Rattle.lane_session.proofs.Ports.{only_as}
use Rattle.link_dials.proofs.Dialing.{dials_same}
use Rattle.asked_runs.proofs.Over.{none-shows, over-shows}
use Rattle.asked_runs.proofs.running.run_scripts.Goals as goal

pub run_in-ran-requires-clause-held : goal.run_in-ran-requires-clause-held
run_in-ran-requires-clause-held g c = fresh-held c.args.first c.args.settings.now c.args.setup c.in-Ok.session c.in-Ok.ensures.fresh c.requires.run.few c.requires.may

pub returns-in-Ok-clause-runs : goal.returns-in-Ok-clause-runs
returns-in-Ok-clause-runs g c =
    over-shows _ _ _ _ _ c.args.settings.now c.args.setup c.in-Ok.session c.args.first c.run_in-ran.result c.requires.may c.in-Ok.ensures.fresh c.run_in-ran.ensures.runs

pub returns-in-Ok-clause-dials : goal.returns-in-Ok-clause-dials
returns-in-Ok-clause-dials g c = only_as _ _ _ _ c.in-Ok.ensures.port c.run_in-ran.ensures.dials.only

pub returns-in-Err-clause-runs : goal.returns-in-Err-clause-runs
returns-in-Err-clause-runs g c = none-shows _ _ _ c.args.settings.now c.args.setup (record {}) c.requires.may c.is_sound.ensures

pub returns-in-Err-clause-dials : goal.returns-in-Err-clause-dials
returns-in-Err-clause-dials g c = dials_same _ _
