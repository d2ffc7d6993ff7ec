use Rattle.std.proofs.Common.{arith, Ok}
use Rattle.lane_session.proofs.LostLines.{LaneSo, OwnSo, lost-none, lane-more, lane-off, lane-whole}
use Rattle.lane_session.proofs.Passing.{passes_less, passes_same, passes_then}
use Rattle.lane_session.proofs.lost_lines.lose_lane.Goals as goal

pub loop-at-init : goal.loop-at-init
loop-at-init g c = record { goes = passes_same _ _ _ _ (lost-none c.args.label.now); stays = λ first s. s; honest = λ h. h; later = omega arith }

pub loop-at-preserved : goal.loop-at-preserved
loop-at-preserved g c = record {
  goes = passes_then _ _ _ _ _ _ _ _ _ (LaneSo c.args.label.now c.args.lane c.args.script.now c.loop-at.at) (OwnSo c.args.label.now c.args.lane c.args.script.now c.loop-at.at (Ok tt)) _
      (λ f i t u h k m x y. lane-more c.args.label.now c.args.lane c.args.script.now c.loop-at.at f i t u h k m x y) c.loop-at.invariant.goes c.in-Ok.ensures.goes;
  stays = λ first s. c.in-Ok.ensures.stays first (c.loop-at.invariant.stays first s);
  honest = λ h. c.in-Ok.ensures.honest (c.loop-at.invariant.honest h);
  later = let a = c.loop-at.invariant.later in let b = c.in-Ok.ensures.later in omega (arith, a, b);
}

pub returns-in-Err-clause-goes : goal.returns-in-Err-clause-goes
returns-in-Err-clause-goes g c =
    passes_then _ _ _ _ _ _ _ _ _ (LaneSo c.args.label.now c.args.lane c.args.script.now c.loop-at.at) _ _
    (λ f i t u h k m x y. lane-off c.args.label.now c.args.lane c.args.script.now c.loop-at.at _ f i t u h k m x y) c.loop-at.invariant.goes c.in-Err.ensures.goes

pub returns-clause-goes : goal.returns-clause-goes
returns-clause-goes g c =
    let is = c.count-at-end.ensures in
    let over = c.loop-at-test.false in
    passes_less _ _ _ _ _ _ _ _ (λ given text h k p. lane-whole c.args.label.now c.args.lane c.args.script.now c.loop-at.at given text h k (omega (arith, is, over)) p) c.loop-at.invariant.goes
