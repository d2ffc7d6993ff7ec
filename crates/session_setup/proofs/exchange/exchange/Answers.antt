use Rattle.std.proofs.Common.{arith, refl}
use Rattle.session_setup.proofs.Alongs.{along_none, along_then, along_less}
use Rattle.session_setup.proofs.Turns.{due_none, due_then, exchanges_reply, exchanges_stop, exchanges_end, keeps_then}
use Rattle.link_dials.proofs.Dialing.{dials_same, dials_then}
use Rattle.session_setup.proofs.exchange.exchange.Goals as goal

pub returns-in-Ok-Some-clause-goes : goal.returns-in-Ok-Some-clause-goes
returns-in-Ok-Some-clause-goes g c =
    let e = rw c.in-Ok-Some.field-0-is at c.in-Ok-Some.ensures in
    along_then _ _ _ _ _ _ (λ h k l p q d t. exchanges_reply c.args.calls.now c.loop.calls c.attempt_once.new.calls c.loop.counter c.loop.dropped c.attempt_once.new.dropped c.in-Ok-Some.record h k l d t) c.loop.invariant.goes e.goes

pub returns-in-Err-clause-goes : goal.returns-in-Err-clause-goes
returns-in-Err-clause-goes g c =
    along_then _ _ _ _ _ _ (λ h k l p q d t. exchanges_stop c.args.calls.now c.loop.calls c.attempt_once.new.calls c.loop.counter c.loop.dropped c.attempt_once.new.dropped c.in-Err.stop h k l d t) c.loop.invariant.goes c.in-Err.ensures.goes

pub loop-preserved : goal.loop-preserved
loop-preserved g c =
    let e = rw c.in-Ok-None.field-0-is at c.in-Ok-None.ensures in
    record {
      few = e.few;
      goes = along_then _ _ _ _ _ _ (λ h k l p q d t. due_then c.args.calls.now c.loop.calls c.attempt_once.new.calls c.loop.counter c.loop.dropped c.attempt_once.new.dropped h k l d t) c.loop.invariant.goes e.goes;
      dials = dials_then _ _ _ _ c.loop.invariant.dials e.dials;
      keeps = keeps_then c.args.calls.now c.loop.calls c.attempt_once.new.calls c.loop.invariant.keeps e.keeps;
      stays = λ first s. e.stays first (c.loop.invariant.stays first s);
      honest = λ h. e.honest (c.loop.invariant.honest h);
    }

pub returns-clause-goes : goal.returns-clause-goes
returns-clause-goes g c =
    along_less _ _ _ _ (λ h k p d. exchanges_end c.args.calls.now c.loop.calls c.loop.counter c.loop.dropped h k (omega (arith, c.loop-test.false)) d) c.loop.invariant.goes

pub loop-init : goal.loop-init
loop-init g c = record {
  few = omega arith;
  goes = along_none _ _ (λ h. due_none c.args.calls.now h);
  dials = dials_same _ _;
  keeps = record { first_xid = refl; limit = refl; cred = refl; made = refl };
  stays = λ first s. s;
  honest = λ h. h;
}

pub returns-in-Ok-Some-clause-dials : goal.returns-in-Ok-Some-clause-dials
returns-in-Ok-Some-clause-dials g c = dials_then _ _ _ _ c.loop.invariant.dials c.attempt_once.ensures.dials

pub returns-in-Err-clause-dials : goal.returns-in-Err-clause-dials
returns-in-Err-clause-dials g c = dials_then _ _ _ _ c.loop.invariant.dials c.in-Err.ensures.dials
