use Rattle.lane_session.proofs.Outcomes.{caused-after}
use Rattle.lane_session.proofs.Writing.{line-written, line-cut, label-cut}
use Rattle.lane_session.proofs.output.write_line.Goals as goal

pub returns-in-Ok-clause-ok : goal.returns-in-Ok-clause-ok
returns-in-Ok-clause-ok g c = line-written _ _ _ c.args.label.now c.args.line.now c.write_all-in-Ok.result c.in-Ok.ensures.ok c.write_all-in-Ok.ensures.ok

pub returns-in-Ok-clause-err : goal.returns-in-Ok-clause-err
returns-in-Ok-clause-err g c = line-cut _ _ _ c.args.label.now c.args.line.now c.write_all-in-Ok.result c.in-Ok.ensures.ok c.write_all-in-Ok.ensures.err

pub returns-in-Ok-clause-cause : goal.returns-in-Ok-clause-cause
returns-in-Ok-clause-cause g c = caused-after c.write_all-in-Ok.result _ _ _ c.in-Ok.ensures.later c.write_all-in-Ok.ensures.cause

pub returns-in-Err-clause-err : goal.returns-in-Err-clause-err
returns-in-Err-clause-err g c = label-cut _ _ c.args.label.now c.args.line.now c.in-Err.ensures.err
