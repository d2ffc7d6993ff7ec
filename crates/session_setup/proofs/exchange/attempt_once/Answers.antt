use Rattle.session_setup.proofs.Alongs.{along_then, along_less}
use Rattle.session_setup.proofs.Turns.{tries_stop}
use Rattle.link_dials.proofs.Dialing.{dials_then}
use Rattle.session_setup.proofs.exchange.attempt_once.Goals as goal

pub returns-in-Ok-clause-goes : goal.returns-in-Ok-clause-goes
returns-in-Ok-clause-goes g c = along_less _ _ _ _ (λ h k p s o x r n due. c.in-Ok.ensures.ends k o x r n c.attempt.new.dropped (s o x r n due)) c.in-Silent.ensures.goes

pub returns-in-Err-clause-goes : goal.returns-in-Err-clause-goes
returns-in-Err-clause-goes g c =
    along_less _ _ _ _ (λ h k p s o x r n due. tries_stop o x r n c.attempt.new.dropped c.end_attempt.new.calls c.in-Err.stop k (c.in-Err.ensures.ends k o x r n c.attempt.new.dropped (s o x r n due))) c.in-Silent.ensures.goes

pub returns-in-Ok-recover-clause-goes : goal.returns-in-Ok-recover-clause-goes
returns-in-Ok-recover-clause-goes g c =
    along_then _ _ _ _ _ _ (λ h k l p q s w o x r n due. w o x r n c.attempt.new.dropped (s o x r n due)) c.in-Failed.ensures.goes c.in-Ok-recover.ensures.goes

pub returns-in-Err-recover-clause-goes : goal.returns-in-Err-recover-clause-goes
returns-in-Err-recover-clause-goes g c =
    along_then _ _ _ _ _ _ (λ h k l p q s w o x r n due. tries_stop o x r n c.attempt.new.dropped c.recover.new.calls c.in-Err-recover.stop l (w o x r n c.attempt.new.dropped (s o x r n due))) c.in-Failed.ensures.goes
    c.in-Err-recover.ensures.goes

pub returns-in-Ok-recover-clause-dials : goal.returns-in-Ok-recover-clause-dials
returns-in-Ok-recover-clause-dials g c = dials_then c.args.port _ _ _ (c.in-Failed.ensures.dials c.args.port) c.in-Ok-recover.ensures.dials

pub returns-in-Err-recover-clause-dials : goal.returns-in-Err-recover-clause-dials
returns-in-Err-recover-clause-dials g c = dials_then c.args.port _ _ _ (c.in-Failed.ensures.dials c.args.port) c.in-Err-recover.ensures.dials
