use Rattle.lane_session.proofs.Telling.{unanswered-goes, telling-held, telling-less, telling-goes, telling-cut}
use Rattle.lane_session.proofs.Ports.{keeps_none, dials_tells}
use Rattle.lane_session.proofs.Turns.{marks_none, marks_tells}
use Rattle.std.proofs.Common.{refl}
use Rattle.lane_session.proofs.running.Session.end.Goals as goal

pub returns-in-Ok-clause-held : goal.returns-in-Ok-clause-held
returns-in-Ok-clause-held g c =
    telling-held c.args.lane c.args.line c.in-Some.answer c.args.self.now c.answer.new.self c.end.new.self c.after_answer-status.result c.requires.least c.requires.most c.requires.line c.end.ensures c.after_answer-status.ensures
    c.is_sound.ensures.sound.bound.lanes c.in-Some.ensures

pub returns-in-Ok-clause-steps : goal.returns-in-Ok-clause-steps
returns-in-Ok-clause-steps g c = λ script held.
    telling-less c.args.lane c.args.line c.in-Some.answer c.args.self.now c.answer.new.self c.end.new.self c.after_answer-status.result c.requires.least c.requires.most c.requires.line c.end.ensures c.after_answer-status.ensures c.in-Some.ensures script

pub returns-in-Ok-clause-goes : goal.returns-in-Ok-clause-goes
returns-in-Ok-clause-goes g c =
    telling-goes c.args.lane c.args.line c.in-Some.answer c.args.self.now c.answer.new.self c.end.new.self c.after_answer-status.result c.requires.least c.requires.most c.requires.line c.end.ensures c.after_answer-status.ensures
    c.args.label.now c.in-Some.ensures _ _ _ _ c.in-Ok.ensures.goes

pub returns-in-Err-clause-goes : goal.returns-in-Err-clause-goes
returns-in-Err-clause-goes g c = telling-cut c.args.label.now _ _ _ _ c.args.lane c.args.line c.in-Some.answer c.args.self.now c.answer.new.self c.in-Err.halt c.requires.least c.requires.most c.requires.line c.in-Some.ensures c.in-Err.ensures.goes

pub returns-in_default-clause-goes : goal.returns-in_default-clause-goes
returns-in_default-clause-goes g c = unanswered-goes c.args.lane c.args.self.now c.answer.new.self c.in_default.ensures c.args.label.now _ _

pub returns-in_default-clause-dials : goal.returns-in_default-clause-dials
returns-in_default-clause-dials g c = keeps_none _ _

pub returns-in-Ok-clause-dials : goal.returns-in-Ok-clause-dials
returns-in-Ok-clause-dials g c = record { same = refl; only = dials_tells c.args.self.now.port _ _ _ _ _ _ c.tell_answer.result _ c.tell_answer.ensures.goes.is }

pub returns-in-Err-clause-dials : goal.returns-in-Err-clause-dials
returns-in-Err-clause-dials g c = record { same = refl; only = dials_tells c.args.self.now.port _ _ _ _ _ _ c.tell_answer.result _ c.tell_answer.ensures.goes.is }

pub returns-in_default-clause-marks : goal.returns-in_default-clause-marks
returns-in_default-clause-marks g c = marks_none _

pub returns-in-Ok-clause-marks : goal.returns-in-Ok-clause-marks
returns-in-Ok-clause-marks g c = marks_tells _ _ _ _ _ _ c.tell_answer.result _ c.tell_answer.ensures.goes.is

pub returns-in-Err-clause-marks : goal.returns-in-Err-clause-marks
returns-in-Err-clause-marks g c = marks_tells _ _ _ _ _ _ c.tell_answer.result _ c.tell_answer.ensures.goes.is
