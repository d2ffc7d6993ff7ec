use Rattle.session_setup.proofs.Alongs.{along_less}
use Rattle.session_setup.proofs.Turns.{goes_on_connected}
use Rattle.link_dials.proofs.Dialing.{dials_same}
use Rattle.session_setup.proofs.exchange.recover.Goals as goal

pub returns-in-Ok-clause-goes : goal.returns-in-Ok-clause-goes
returns-in-Ok-clause-goes g c = along_less _ _ _ _ (λ h k p con. goes_on_connected c.args.calls.now c.end_attempt.new.calls c.connect.result h k (c.in-Ok.ensures.ends h) con) c.connect.ensures.goes

pub returns-in-Err-clause-dials : goal.returns-in-Err-clause-dials
returns-in-Err-clause-dials g c = dials_same _ _
