use Rattle.std.proofs.Common.{arith, refl, Bool}
use Rattle.lane_session.proofs.Outcomes.{caused-later}
use Rattle.lane_session.proofs.Passing.{passes_then, passes_same}
use Rattle.lane_session.proofs.Ports.{keeps_none, keeps_then}
use Rattle.lane_session.proofs.Reaching.{core-same}
use Rattle.lane_session.proofs.Turning.{goes-none, goes-then-on, goes-then-off}
use Rattle.lane_session.proofs.running.Session.work.Goals as goal

pub working-init : goal.working-init
working-init g c = record {
  held = c.requires.held;
  goes = passes_same _ _ _ _ (λ h. goes-none c.args.label.now c.args.script.now c.args.self.now c.args.self.now h refl refl (core-same c.args.self.now h));
  dials = keeps_none _ _;
  stays = λ first s. s;
  honest = λ x. x;
  later = omega arith;
}

pub working-smaller : goal.working-smaller
working-smaller g c = c.in-Ok.ensures.less c.if-not-went.false

pub working-preserved : goal.working-preserved
working-preserved g c =
    let i = c.working.invariant in
    let r = c.in-Ok.ensures in
    record {
      held = r.held;
      goes = passes_then _ _ _ _ _ _ _ _ _ _ _ _ (λ u v x y h k m p q. goes-then-on c.args.label.now c.args.script.now c.args.self.now c.working.self c.take_turn.new.self u v x y h k m p q) i.goes r.goes;
      dials = keeps_then _ _ _ _ _ _ i.dials r.dials;
      stays = λ first s. r.stays first (i.stays first s);
      honest = λ x. r.honest (i.honest x);
      later = let a = i.later in let b = r.later in omega (arith, a, b);
    }

pub returns-then-not-went-clause-idle : goal.returns-then-not-went-clause-idle
returns-then-not-went-clause-idle g c = c.in-Ok.ensures.idle c.if-not-went.true

pub returns-then-not-went-clause-quiet : goal.returns-then-not-went-clause-quiet
returns-then-not-went-clause-quiet g c = c.in-Ok.ensures.quiet c.if-not-went.true

pub returns-then-not-went-clause-goes : goal.returns-then-not-went-clause-goes
returns-then-not-went-clause-goes g c =
    passes_then _ _ _ _ _ _ _ _ _ _ _ _ (λ u v x y h k m p q. goes-then-on c.args.label.now c.args.script.now c.args.self.now c.working.self c.take_turn.new.self u v x y h k m p q) c.working.invariant.goes c.in-Ok.ensures.goes

pub returns-then-not-went-clause-dials : goal.returns-then-not-went-clause-dials
returns-then-not-went-clause-dials g c = keeps_then _ _ _ _ _ _ c.working.invariant.dials c.in-Ok.ensures.dials

pub returns-in-Err-clause-goes : goal.returns-in-Err-clause-goes
returns-in-Err-clause-goes g c =
    passes_then _ _ _ _ _ _ _ _ _ _ _ _ (λ u v x y h k m p q. goes-then-off c.args.label.now c.args.script.now c.args.self.now c.working.self c.in-Err.halt u v x y h k m p q) c.working.invariant.goes c.in-Err.ensures.goes

pub returns-in-Err-clause-cause : goal.returns-in-Err-clause-cause
returns-in-Err-clause-cause g c = caused-later Bool (Unit {0}) c.in-Err.halt _ _ _ c.working.invariant.later c.in-Err.ensures.cause

pub returns-in-Err-clause-dials : goal.returns-in-Err-clause-dials
returns-in-Err-clause-dials g c = keeps_then _ _ _ _ _ _ c.working.invariant.dials c.in-Err.ensures.dials
