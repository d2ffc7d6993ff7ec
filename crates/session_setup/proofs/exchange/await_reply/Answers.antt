use Rattle.std.proofs.Common.{arith, refl}
use Rattle.session_setup.proofs.Alongs.{along_none, along_then, along_less}
use Rattle.session_setup.proofs.Turns.{waits_none, waits_then, awaits_heard, awaits_lost, keeps_then}
use Rattle.link_dials.proofs.Dialing.{dials_same, dials_then}
use Rattle.session_setup.proofs.exchange.await_reply.Goals as goal

pub returns-in-Some-clause-goes : goal.returns-in-Some-clause-goes
returns-in-Some-clause-goes g c =
    along_then _ _ _ _ _ _ (λ h k m p q w s. awaits_heard c.args.calls.now c.loop-dropped.calls c.hear.new.calls c.args.dropped.now c.loop-dropped.dropped c.in-Some.heard h k m w s) c.loop-dropped.invariant.goes c.in-Some.ensures.goes

pub loop-dropped-preserved : goal.loop-dropped-preserved
loop-dropped-preserved g c = record {
  few = omega (arith, c.loop-dropped-test.true);
  goes = along_then _ _ _ _ _ _ (λ h k m p q w s. waits_then c.args.calls.now c.loop-dropped.calls c.hear.new.calls c.args.dropped.now c.loop-dropped.dropped h k m w s) c.loop-dropped.invariant.goes c.in_default.ensures.goes;
  dials = λ port. dials_then port _ _ _ (c.loop-dropped.invariant.dials port) (c.in_default.ensures.dials port);
  keeps = keeps_then c.args.calls.now c.loop-dropped.calls c.hear.new.calls c.loop-dropped.invariant.keeps c.in_default.ensures.keeps;
  stays = λ first s. c.in_default.ensures.stays first (c.loop-dropped.invariant.stays first s);
  honest = λ h. c.in_default.ensures.honest (c.loop-dropped.invariant.honest h);
}

pub returns-clause-goes : goal.returns-clause-goes
returns-clause-goes g c =
    along_less _ _ _ _ (λ h k p w. awaits_lost c.args.calls.now c.loop-dropped.calls c.args.dropped.now c.loop-dropped.dropped h k (omega (arith, c.loop-dropped.invariant.few, c.loop-dropped-test.false)) w) c.loop-dropped.invariant.goes

pub loop-dropped-init : goal.loop-dropped-init
loop-dropped-init g c = record {
  few = c.requires.few;
  goes = along_none _ _ (λ h. waits_none c.args.calls.now c.args.dropped.now h);
  dials = λ port. dials_same port _;
  keeps = record { first_xid = refl; limit = refl; cred = refl; made = refl };
  stays = λ first s. s;
  honest = λ h. h;
}

pub returns-in-Some-clause-dials : goal.returns-in-Some-clause-dials
returns-in-Some-clause-dials g c = λ port. dials_then port _ _ _ (c.loop-dropped.invariant.dials port) (c.hear.ensures.dials port)
