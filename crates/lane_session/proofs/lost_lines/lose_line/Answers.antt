use Rattle.lane_session.proofs.LostLines.{passes-cut, passes-told}
use Rattle.lane_session.proofs.lost_lines.lose_line.Goals as goal

pub returns-in-Ok-clause-goes : goal.returns-in-Ok-clause-goes
returns-in-Ok-clause-goes g c =
    passes-told c.args.label.now c.args.script.now c.args.at (record { lane = c.op-lane.result.0; line = c.op-lane.result.1; op = c.op-lane.result.2.now }) c.op-lane.ensures _ _ _ _ _ _ _ c.in-Ok.field-0 c.tell_answer.result c.in-Ok.ensures.goes c.tell_answer.ensures.goes

pub returns-in-Err-clause-goes : goal.returns-in-Err-clause-goes
returns-in-Err-clause-goes g c =
    passes-cut c.args.label.now c.args.script.now c.args.at (record { lane = c.op-lane.result.0; line = c.op-lane.result.1; op = c.op-lane.result.2.now }) c.op-lane.ensures _ _ _ _ _ c.in-Err.field-0 c.in-Err.ensures.goes
