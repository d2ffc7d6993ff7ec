use Rattle.std.proofs.Common.{[], refl}
use Rattle.lane_session.specs.declared.halt.Halt.TheVariants.{Memory}
use Rattle.lane_session.proofs.Closing.{broken-counts}
use Rattle.lane_session.proofs.CoreEnds.{told-none}
use Rattle.lane_session.proofs.Ending.{broken-none}
use Rattle.lane_session.proofs.Passing.{passes_same}
use Rattle.link_dials.proofs.Dialing.{dials_same}
use Rattle.script_runs.specs.Stock.{setup_with}
use Rattle.script_runs.proofs.LaneRuns.{begins-sound, hands-with, no_hands}
use Rattle.script_runs.proofs.lanes.run_ready.Goals as goal

pub returns-in_default-clause-core : goal.returns-in_default-clause-core
returns-in_default-clause-core g c = told-none _ c.args.settings.now (setup_with c.args.stock c.args.settings.now c.args.ready) c.requires.may (begins-sound c.args.stock c.args.ready.root c.is_sound.ensures)

pub returns-in_default-clause-dials : goal.returns-in_default-clause-dials
returns-in_default-clause-dials g c = dials_same _ _

pub returns-in_default-clause-shown : goal.returns-in_default-clause-shown
returns-in_default-clause-shown g c =
    passes_same _ _ _ _ (λ h u. broken-counts _ c.args.ready.tally c.args.settings.now.count c.args.script.now Memory _ [] [] h h refl (broken-none c.args.script.now h u))

pub session-status-requires-clause-may : goal.session-status-requires-clause-may
session-status-requires-clause-may g c = rw c.in-Ok.ensures (c.requires.may)

pub returns-clause-core : goal.returns-clause-core
returns-clause-core g c = rw c.in-Ok.ensures at c.session-status.ensures.core

pub returns-clause-shown : goal.returns-clause-shown
returns-clause-shown g c = rw c.in-Ok.ensures at c.session-status.ensures.shown

pub returns-in_default-clause-pages : goal.returns-in_default-clause-pages
returns-in_default-clause-pages g c = no_hands _ c.args.settings.now (setup_with c.args.stock c.args.settings.now c.args.ready) c.args.ready.root

pub returns-clause-pages : goal.returns-clause-pages
returns-clause-pages g c = hands-with _ _ c.args.settings.now c.args.stock c.args.ready c.in-Ok.pages _ _ c.in-Ok.ensures c.handed_back.ensures c.session-status.ensures.pages
