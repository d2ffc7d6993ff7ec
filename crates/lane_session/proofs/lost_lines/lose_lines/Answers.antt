use Rattle.std.proofs.Common.{arith, ◌+◌, Ok}
use Rattle.lane_session.specs.Losing.{of_lane, LosesBy}
use Rattle.lane_session.proofs.LostLines.{LanesSo, lanes-none, lanes-more, lanes-off, lanes-whole}
use Rattle.lane_session.proofs.Passing.{passes_less, passes_same, passes_then}
use Rattle.lane_session.proofs.lost_lines.lose_lines.Goals as goal

pub loop-index-init : goal.loop-index-init
loop-index-init g c = record { goes = passes_same _ _ _ _ (lanes-none c.args.label.now c.args.script.now); stays = λ first s. s; honest = λ h. h; later = omega arith }

pub loop-index-preserved : goal.loop-index-preserved
loop-index-preserved g c = record {
  goes = passes_then _ _ _ _ _ _ _ _ _ (LanesSo c.args.label.now c.args.script.now c.loop-index.index) (LosesBy c.args.label.now (of_lane (c.loop-index.index + 1) c.args.script.now) (Ok tt)) _
      (λ f i t u h k m x y. lanes-more c.args.label.now c.args.script.now c.loop-index.index f i t u h k m x y) c.loop-index.invariant.goes c.in-Ok.ensures.goes;
  stays = λ first s. c.in-Ok.ensures.stays first (c.loop-index.invariant.stays first s);
  honest = λ h. c.in-Ok.ensures.honest (c.loop-index.invariant.honest h);
  later = let a = c.loop-index.invariant.later in let b = c.in-Ok.ensures.later in omega (arith, a, b);
}

pub returns-in-Err-clause-goes : goal.returns-in-Err-clause-goes
returns-in-Err-clause-goes g c =
    passes_then _ _ _ _ _ _ _ _ _ (LanesSo c.args.label.now c.args.script.now c.loop-index.index) _ _
    (λ f i t u h k m x y. lanes-off c.args.label.now c.args.script.now c.loop-index.index _ f i t u h k m c.loop-index-test.true x y) c.loop-index.invariant.goes c.in-Err.ensures.goes

pub returns-clause-goes : goal.returns-clause-goes
returns-clause-goes g c =
    let most = c.loop-index.auto.index-end in
    let over = c.loop-index-test.false in
    passes_less _ _ _ _ _ _ _ _ (λ given text h k p. lanes-whole c.args.label.now c.args.script.now c.loop-index.index given text h k (omega (arith, most, over)) p) c.loop-index.invariant.goes
