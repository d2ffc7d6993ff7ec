use Rattle.lane_session.proofs.Asking.{asked-at}
use Rattle.lane_session.proofs.Seating.{few-begun, rested}
use Rattle.lane_session.proofs.Starting.{found-within, place-small, idle-there, starting-held, starting-less, starting-goes, starting-cut, resting-goes}
use Rattle.lane_session.proofs.Stepping.{rests-idle}
use Rattle.nfs_script.specs.declared.script.ScriptLine.{ScriptLine}
use Rattle.lane_session.proofs.Ports.{keeps_none}
use Rattle.lane_session.proofs.Turns.{marks_none}
use Rattle.lane_session.proofs.running.Session.begin.Goals as goal

pub start-requires-clause-asked : goal.start-requires-clause-asked
start-requires-clause-asked g c =
    let l : ScriptLine = record { lane = c.op-line.result.0; line = c.op-line.result.1; op = c.op-line.result.2.now } in
    (asked-at c.args.script.now c.in-Some.place l c.requires.asked c.op-line.ensures).op

pub start-requires-clause-idle : goal.start-requires-clause-idle
start-requires-clause-idle g c = idle-there c.args.script.now c.args.lane c.in-Some.place c.args.self.now c.seek.new.self c.requires.least c.requires.most c.requires.held c.requires.line c.in-Some.ensures

pub start-requires-clause-begun : goal.start-requires-clause-begun
start-requires-clause-begun g c = few-begun c.args.script.now c.args.self.now c.requires.held

pub begin-requires-clause-place : goal.begin-requires-clause-place
begin-requires-clause-place g c = place-small c.args.script.now c.in-Some.place c.requires.few (found-within c.args.script.now c.args.lane c.in-Some.place c.args.self.now.lanes c.seek.new.self c.in-Some.ensures)

pub returns-in_default-clause-held : goal.returns-in_default-clause-held
returns-in_default-clause-held g c = rested c.args.script.now c.args.lane c.args.self.now c.seek.new.self c.requires.held c.requires.line c.in_default.ensures

pub returns-in_default-clause-steps : goal.returns-in_default-clause-steps
returns-in_default-clause-steps g c = rests-idle c.args.script.now c.args.lane c.args.self.now c.seek.new.self c.requires.least c.requires.most c.requires.held c.requires.line c.in_default.ensures

pub returns-in_default-clause-goes : goal.returns-in_default-clause-goes
returns-in_default-clause-goes g c = resting-goes _ _ c.args.script.now c.args.lane c.args.self.now c.seek.new.self c.requires.least c.in_default.ensures

pub returns-in-Ok-clause-held : goal.returns-in-Ok-clause-held
returns-in-Ok-clause-held g c =
    let l : ScriptLine = record { lane = c.op-line.result.0; line = c.op-line.result.1; op = c.op-line.result.2.now } in
    starting-held c.args.script.now c.args.lane c.in-Some.place l c.args.self.now c.seek.new.self c.requires.least c.requires.most c.requires.held c.requires.line c.in-Some.ensures c.op-line.ensures
    c.requires.few c.in-Ok.ensures.fits c.start.new.self c.in-Ok.ensures.goes.given c.begin.new.self c.in-Ok.ensures.goes.is.0 c.begin.ensures

pub returns-in-Ok-clause-steps : goal.returns-in-Ok-clause-steps
returns-in-Ok-clause-steps g c =
    let l : ScriptLine = record { lane = c.op-line.result.0; line = c.op-line.result.1; op = c.op-line.result.2.now } in
    starting-less c.args.script.now c.args.lane c.in-Some.place l c.args.self.now c.seek.new.self c.requires.least c.requires.most c.requires.held c.requires.line c.in-Some.ensures c.op-line.ensures
    c.start.new.self c.in-Ok.ensures.goes.given c.begin.new.self c.in-Ok.ensures.goes.is.0 c.begin.ensures

pub returns-in-Ok-clause-goes : goal.returns-in-Ok-clause-goes
returns-in-Ok-clause-goes g c =
    let l : ScriptLine = record { lane = c.op-line.result.0; line = c.op-line.result.1; op = c.op-line.result.2.now } in
    starting-goes c.args.script.now c.args.lane c.in-Some.place l c.args.self.now c.seek.new.self c.requires.least c.requires.most c.requires.held c.requires.line c.in-Some.ensures c.op-line.ensures
    c.requires.few c.in-Ok.ensures.fits c.start.new.self c.begin.new.self c.begin.ensures _ _ _ _ c.in-Ok.ensures.goes

pub returns-in-Err-clause-goes : goal.returns-in-Err-clause-goes
returns-in-Err-clause-goes g c =
    let l : ScriptLine = record { lane = c.op-line.result.0; line = c.op-line.result.1; op = c.op-line.result.2.now } in
    starting-cut c.args.script.now c.args.lane c.in-Some.place l c.args.self.now c.seek.new.self c.requires.least c.requires.most c.requires.held c.requires.line c.in-Some.ensures c.op-line.ensures
    c.start.new.self c.in-Err.field-0 _ _ _ _ c.in-Err.ensures.goes

pub returns-in_default-clause-dials : goal.returns-in_default-clause-dials
returns-in_default-clause-dials g c = keeps_none _ _

pub returns-in-Ok-clause-dials : goal.returns-in-Ok-clause-dials
returns-in-Ok-clause-dials g c = c.in-Ok.ensures.dials

pub returns-in-Err-clause-dials : goal.returns-in-Err-clause-dials
returns-in-Err-clause-dials g c = c.in-Err.ensures.dials

pub returns-in_default-clause-marks : goal.returns-in_default-clause-marks
returns-in_default-clause-marks g c = marks_none _

pub returns-in-Ok-clause-marks : goal.returns-in-Ok-clause-marks
returns-in-Ok-clause-marks g c = c.in-Ok.ensures.marks

pub returns-in-Err-clause-marks : goal.returns-in-Err-clause-marks
returns-in-Err-clause-marks g c = c.in-Err.ensures.marks
