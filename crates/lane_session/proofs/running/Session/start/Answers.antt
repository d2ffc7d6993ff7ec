use Rattle.std.proofs.Common.{refl, subst}
use Rattle.op_machines.specs.Fits.{Fits}
use Rattle.lane_session.proofs.Starting.{start-read, start-now, start-cut}
use Rattle.lane_session.proofs.Ports.{keeps_none, dials_notes}
use Rattle.lane_session.proofs.Turns.{marks_none, marks_notes}
use Rattle.lane_session.proofs.running.Session.start.Goals as goal

pub returns-in_default-clause-goes : goal.returns-in_default-clause-goes
returns-in_default-clause-goes g c = start-read _ _ _ c.args.lane c.args.line c.args.op.now c.args.self.now c.args.self.now _ c.now-ms.result c.now-ms.ensures

pub returns-in-Ok-note_start-clause-goes : goal.returns-in-Ok-note_start-clause-goes
returns-in-Ok-note_start-clause-goes g c =
    start-now _ _ _ _ c.args.lane c.args.line c.args.op.now c.in-Ok.machine c.args.self.now c.begin.new.self c.now-ms.result c.in-Ok-note_start.now c.in-Ok.ensures.is c.in-Ok-note_start.ensures.is c.now-ms.ensures c.begin.ensures
    c.in-Ok-note_start.ensures.goes

pub returns-in-Err-clause-goes : goal.returns-in-Err-clause-goes
returns-in-Err-clause-goes g c = start-cut _ _ _ _ c.args.lane c.args.line c.args.op.now c.args.self.now c.args.self.now c.in-Err.wanting c.now-ms.result c.now-ms.ensures c.in-Err.ensures.goes

pub returns-in-Ok-note_start-clause-fits : goal.returns-in-Ok-note_start-clause-fits
returns-in-Ok-note_start-clause-fits g c = subst Fits c.in-Ok.ensures.is c.in-Ok.ensures.fits

pub returns-in_default-clause-dials : goal.returns-in_default-clause-dials
returns-in_default-clause-dials g c = keeps_none _ _

pub returns-in-Ok-note_start-clause-dials : goal.returns-in-Ok-note_start-clause-dials
returns-in-Ok-note_start-clause-dials g c = record { same = refl; only = dials_notes c.args.self.now.port _ _ _ _ _ _ _ c.note_start.ensures.goes }

pub returns-in-Err-clause-dials : goal.returns-in-Err-clause-dials
returns-in-Err-clause-dials g c = record { same = refl; only = dials_notes c.args.self.now.port _ _ _ _ _ _ _ c.note_start.ensures.goes }

pub returns-in_default-clause-marks : goal.returns-in_default-clause-marks
returns-in_default-clause-marks g c = marks_none _

pub returns-in-Ok-note_start-clause-marks : goal.returns-in-Ok-note_start-clause-marks
returns-in-Ok-note_start-clause-marks g c = marks_notes _ _ _ _ _ _ _ c.note_start.ensures.goes

pub returns-in-Err-clause-marks : goal.returns-in-Err-clause-marks
returns-in-Err-clause-marks g c = marks_notes _ _ _ _ _ _ _ c.note_start.ensures.goes
