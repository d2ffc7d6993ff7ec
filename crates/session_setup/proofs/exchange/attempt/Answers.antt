use Rattle.session_setup.proofs.Alongs.{along_then, along_less}
use Rattle.link_dials.proofs.Dialing.{dials_then}
use Rattle.session_setup.proofs.exchange.attempt.Goals as goal

pub returns-in-Ok-clause-goes : goal.returns-in-Ok-clause-goes
returns-in-Ok-clause-goes g c = along_then _ _ _ _ _ _ (λ h k l p q s w o x r n due. w o x r n (s o x r n c.args.dropped.now due)) c.in-Ok.ensures.goes c.await_reply.ensures.goes

pub returns-in-Err-Failed-clause-goes : goal.returns-in-Err-Failed-clause-goes
returns-in-Err-Failed-clause-goes g c =
    let e = rw c.in-Err-Failed.field-0-is at c.in-Err-Failed.ensures in
    along_less _ _ _ _ (λ h k p s o x r n due. s o x r n c.args.dropped.now due) e.goes

pub returns-in-Err-Memory-clause-goes : goal.returns-in-Err-Memory-clause-goes
returns-in-Err-Memory-clause-goes g c =
    let e = rw c.in-Err-Memory.field-0-is at c.in-Err-Memory.ensures in
    along_less _ _ _ _ (λ h k p s o x r n due. s o x r n c.args.dropped.now due) e.goes

pub returns-in-Ok-clause-dials : goal.returns-in-Ok-clause-dials
returns-in-Ok-clause-dials g c = λ port. dials_then port _ _ _ (c.in-Ok.ensures.dials port) (c.await_reply.ensures.dials port)
