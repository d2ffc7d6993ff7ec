use Rattle.lane_session.proofs.LostLines.{lost-own, lost-other}
use Rattle.lane_session.proofs.Passing.{passes_less, passes_same}
use Rattle.lane_session.proofs.lost_lines.lose_own.Goals as goal

pub returns-then-op-lane-clause-goes : goal.returns-then-op-lane-clause-goes
returns-then-op-lane-clause-goes g c =
    passes_less _ _ _ _ _ _ _ _ (lost-own c.args.label.now c.args.script.now c.args.at c.args.lane (record { lane = c.op.result.0; line = c.op.result.1; op = c.op.result.2.now }) c.op.ensures c.lose_line.result c.if-op-lane.true)
    c.lose_line.ensures.goes

pub returns-else-op-lane-clause-goes : goal.returns-else-op-lane-clause-goes
returns-else-op-lane-clause-goes g c =
    passes_same _ _ _ _ (lost-other c.args.label.now c.args.script.now c.args.at c.args.lane (record { lane = c.op.result.0; line = c.op.result.1; op = c.op.result.2.now }) c.op.ensures c.if-op-lane.false)
