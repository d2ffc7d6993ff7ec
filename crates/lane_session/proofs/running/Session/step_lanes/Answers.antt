use Rattle.std.proofs.Common.{arith, refl, sym, subst, ◌≡◌, ◌∙◌, ◌+◌, Bool}
use Rattle.client_core.specs.Lanes.{AnsweredFrom}
use Rattle.client_core.specs.View.{View}
use Rattle.lane_session.proofs.Outcomes.{caused-later}
use Rattle.lane_session.proofs.Passing.{passes_then, passes_same}
use Rattle.lane_session.proofs.Reaching.{core-same}
use Rattle.lane_session.proofs.Stepping.{lane-went-on, lane-went-not, quiet-more, rests-then}
use Rattle.lane_session.proofs.Turning.{goes-none, goes-then-on, goes-then-off}
use Rattle.lane_session.proofs.Ports.{keeps_none, keeps_then}
use Rattle.lane_session.proofs.Turns.{marks_none, marks_then}
use Rattle.lane_session.proofs.running.Session.step_lanes.Goals as goal

pub loop-index-init : goal.loop-index-init
loop-index-init g c = record {
  held = c.requires.held;
  core = refl;
  tries = record { attempts = refl; dropped = refl };
  lines = omega arith;
  quiet = λ n lt. absurd (omega (arith, lt));
  goes = passes_same _ _ _ _ (λ h. goes-none c.args.label.now c.args.script.now c.args.self.now c.args.self.now h refl refl (core-same c.args.self.now h));
  marks = marks_none _;
  dials = keeps_none _ _;
  stays = λ first s. s;
  honest = λ x. x;
  later = omega arith;
}

pub loop-index-preserved : goal.loop-index-preserved
loop-index-preserved g c =
    let i = c.loop-index.invariant in
    let r = c.in-Ok.ensures in
    let s = lane-went-not c.args.script.now (c.loop-index.index + 1) c.loop-index.self c.step_from.new.self c.in-Ok.went c.if-went.false r.steps in
    record {
      held = r.held;
      core = s.core ∙ i.core;
      tries = record { attempts = s.tries.attempts ∙ i.tries.attempts; dropped = s.tries.dropped ∙ i.tries.dropped };
      lines = let a = s.lines in let b = i.lines in omega (arith, a, b);
      quiet = quiet-more c.args.script.now c.loop-index.index c.loop-index.self c.step_from.new.self s i.quiet;
      goes = passes_then _ _ _ _ _ _ _ _ _ _ _ _ (λ u v x y h k m p q. goes-then-on c.args.label.now c.args.script.now c.args.self.now c.loop-index.self c.step_from.new.self u v x y h k m p q) i.goes r.goes;
      marks = marks_then _ _ _ i.marks r.marks;
      dials = keeps_then _ _ _ _ _ _ i.dials r.dials;
      stays = λ first s. r.stays first (i.stays first s);
      honest = λ x. r.honest (i.honest x);
      later = let a = i.later in let b = r.later in omega (arith, a, b);
    }

pub returns-then-went-clause-steps : goal.returns-then-went-clause-steps
returns-then-went-clause-steps g c =
    let i = c.loop-index.invariant in
    rests-then c.args.script.now c.args.self.now c.loop-index.self c.step_from.new.self i.core i.tries i.lines
    (lane-went-on c.args.script.now (c.loop-index.index + 1) c.loop-index.self c.step_from.new.self c.in-Ok.went c.if-went.true c.in-Ok.ensures.steps)

pub returns-then-went-clause-goes : goal.returns-then-went-clause-goes
returns-then-went-clause-goes g c =
    passes_then _ _ _ _ _ _ _ _ _ _ _ _ (λ u v x y h k m p q. goes-then-on c.args.label.now c.args.script.now c.args.self.now c.loop-index.self c.step_from.new.self u v x y h k m p q) c.loop-index.invariant.goes c.in-Ok.ensures.goes

pub returns-in-Err-clause-goes : goal.returns-in-Err-clause-goes
returns-in-Err-clause-goes g c =
    passes_then _ _ _ _ _ _ _ _ _ _ _ _ (λ u v x y h k m p q. goes-then-off c.args.label.now c.args.script.now c.args.self.now c.loop-index.self c.in-Err.halt u v x y h k m p q) c.loop-index.invariant.goes c.in-Err.ensures.goes

pub returns-in-Err-clause-cause : goal.returns-in-Err-clause-cause
returns-in-Err-clause-cause g c = caused-later Bool Bool c.in-Err.halt _ _ _ c.loop-index.invariant.later c.in-Err.ensures.cause

pub returns-clause-steps : goal.returns-clause-steps
returns-clause-steps g c =
    let i = c.loop-index.invariant in
    let whole : c.loop-index.index ≡ 16 = omega (arith, c.loop-index-test.false, c.loop-index.auto.index-end) in
    record { core = i.core; tries = i.tries; lines = i.lines; quiet = λ n lt. i.quiet n (omega (arith, lt, whole)) }

pub returns-then-went-clause-dials : goal.returns-then-went-clause-dials
returns-then-went-clause-dials g c = keeps_then _ _ _ _ _ _ c.loop-index.invariant.dials c.in-Ok.ensures.dials

pub returns-in-Err-clause-dials : goal.returns-in-Err-clause-dials
returns-in-Err-clause-dials g c = keeps_then _ _ _ _ _ _ c.loop-index.invariant.dials c.in-Err.ensures.dials

pub returns-then-went-clause-marks : goal.returns-then-went-clause-marks
returns-then-went-clause-marks g c = marks_then _ _ _ c.loop-index.invariant.marks c.in-Ok.ensures.marks

pub returns-in-Err-clause-marks : goal.returns-in-Err-clause-marks
returns-in-Err-clause-marks g c = marks_then _ _ _ c.loop-index.invariant.marks c.in-Err.ensures.marks

pub step_from-requires-clause-from : goal.step_from-requires-clause-from
step_from-requires-clause-from g c = subst (λ (v : View). AnsweredFrom c.args.least v.lanes) (sym c.loop-index.invariant.core) c.requires.from
