use Rattle.std.proofs.Common.{arith, refl, Bool}
use Rattle.lane_session.proofs.Outcomes.{caused-later}
use Rattle.lane_session.proofs.Passing.{passes_then, passes_same}
use Rattle.lane_session.proofs.Reaching.{core-same}
use Rattle.lane_session.proofs.Stepping.{lessens-tries, rests-tries, went-on, went-not}
use Rattle.lane_session.proofs.Turning.{goes-none, goes-then-on, goes-then-off}
use Rattle.lane_session.proofs.Ports.{keeps_none, keeps_then}
use Rattle.lane_session.proofs.Turns.{marks_none, marks_then}
use Rattle.lane_session.proofs.running.Session.settle.Goals as goal

pub settling-init : goal.settling-init
settling-init g c = record {
  held = c.requires.held;
  less = omega arith;
  goes = passes_same _ _ _ _ (λ h. goes-none c.args.label.now c.args.script.now c.args.self.now c.args.self.now h refl refl (core-same c.args.self.now h));
  marks = marks_none _;
  dials = keeps_none _ _;
  stays = λ first s. s;
  honest = λ x. x;
  later = omega arith;
}

pub settling-smaller : goal.settling-smaller
settling-smaller g c = (went-on c.args.script.now c.settling.self c.step_one.new.self c.in-Ok.went c.if-not-went.false c.in-Ok.ensures.steps).lines

pub settling-preserved : goal.settling-preserved
settling-preserved g c =
    let i = c.settling.invariant in
    let r = c.in-Ok.ensures in
    let l = went-on c.args.script.now c.settling.self c.step_one.new.self c.in-Ok.went c.if-not-went.false r.steps in
    record {
      held = r.held;
      less = let t = lessens-tries c.args.script.now c.settling.self c.step_one.new.self l in let before = i.less in omega (arith, t, before);
      goes = passes_then _ _ _ _ _ _ _ _ _ _ _ _ (λ u v x y h k m p q. goes-then-on c.args.label.now c.args.script.now c.args.self.now c.settling.self c.step_one.new.self u v x y h k m p q) i.goes r.goes;
      marks = marks_then _ _ _ i.marks r.marks;
      dials = keeps_then _ _ _ _ _ _ i.dials r.dials;
      stays = λ first s. r.stays first (i.stays first s);
      honest = λ x. r.honest (i.honest x);
      later = let a = i.later in let b = r.later in omega (arith, a, b);
    }

pub returns-then-not-went-clause-quiet : goal.returns-then-not-went-clause-quiet
returns-then-not-went-clause-quiet g c = (went-not c.args.script.now c.settling.self c.step_one.new.self c.in-Ok.went c.if-not-went.true c.in-Ok.ensures.steps).quiet

pub returns-then-not-went-clause-less : goal.returns-then-not-went-clause-less
returns-then-not-went-clause-less g c =
    let s = went-not c.args.script.now c.settling.self c.step_one.new.self c.in-Ok.went c.if-not-went.true c.in-Ok.ensures.steps in
    let t = rests-tries c.args.script.now c.settling.self c.step_one.new.self s in
    let before = c.settling.invariant.less in
    omega (arith, t, before)

pub returns-then-not-went-clause-goes : goal.returns-then-not-went-clause-goes
returns-then-not-went-clause-goes g c =
    passes_then _ _ _ _ _ _ _ _ _ _ _ _ (λ u v x y h k m p q. goes-then-on c.args.label.now c.args.script.now c.args.self.now c.settling.self c.step_one.new.self u v x y h k m p q) c.settling.invariant.goes c.in-Ok.ensures.goes

pub returns-in-Err-clause-goes : goal.returns-in-Err-clause-goes
returns-in-Err-clause-goes g c =
    passes_then _ _ _ _ _ _ _ _ _ _ _ _ (λ u v x y h k m p q. goes-then-off c.args.label.now c.args.script.now c.args.self.now c.settling.self c.in-Err.halt u v x y h k m p q) c.settling.invariant.goes c.in-Err.ensures.goes

pub returns-in-Err-clause-cause : goal.returns-in-Err-clause-cause
returns-in-Err-clause-cause g c = caused-later Bool (Unit {0}) c.in-Err.halt _ _ _ c.settling.invariant.later c.in-Err.ensures.cause

pub returns-then-not-went-clause-dials : goal.returns-then-not-went-clause-dials
returns-then-not-went-clause-dials g c = keeps_then _ _ _ _ _ _ c.settling.invariant.dials c.in-Ok.ensures.dials

pub returns-in-Err-clause-dials : goal.returns-in-Err-clause-dials
returns-in-Err-clause-dials g c = keeps_then _ _ _ _ _ _ c.settling.invariant.dials c.in-Err.ensures.dials

pub returns-then-not-went-clause-marks : goal.returns-then-not-went-clause-marks
returns-then-not-went-clause-marks g c = marks_then _ _ _ c.settling.invariant.marks c.in-Ok.ensures.marks

pub returns-in-Err-clause-marks : goal.returns-in-Err-clause-marks
returns-in-Err-clause-marks g c = marks_then _ _ _ c.settling.invariant.marks c.in-Err.ensures.marks
