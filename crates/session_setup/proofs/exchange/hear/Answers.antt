use Rattle.session_setup.proofs.Alongs.{along_call}
use Rattle.session_setup.proofs.Turns.{hears_reply, hears_other, hears_failed, hears_memory}
use Rattle.link_dials.proofs.Dialing.{dials_received}
use Rattle.session_setup.proofs.exchange.hear.Goals as goal

pub returns-then-answers-clause-goes : goal.returns-then-answers-clause-goes
returns-then-answers-clause-goes g c =
    let says = rw (c.bytes.ensures, c.of-record.ensures) at c.if-answers.ensures.answers in
    rw c.of-record.ensures (along_call _ _ _ _ c.in-Whole.ensures.told (λ a b p. hears_reply c.args.calls.now c.answers.new.calls c.receive.new.rec.items a b c.answers.ensures.keeps says p))

pub returns-else-answers-clause-goes : goal.returns-else-answers-clause-goes
returns-else-answers-clause-goes g c =
    let says = rw (c.bytes.ensures, c.of-record.ensures) at c.if-answers.ensures.answers in
    along_call _ _ _ _ c.in-Whole.ensures.told (λ a b p. hears_other c.args.calls.now c.answers.new.calls c.receive.new.rec.items a b c.answers.ensures.keeps says p)

pub returns-in-Silent-clause-goes : goal.returns-in-Silent-clause-goes
returns-in-Silent-clause-goes g c = along_call _ _ _ _ c.in-Silent.ensures.told (λ a b p. hears_failed c.args.calls.now a b p)

pub returns-in-Failed-clause-goes : goal.returns-in-Failed-clause-goes
returns-in-Failed-clause-goes g c = along_call _ _ _ _ c.in-Failed.ensures.told (λ a b p. hears_failed c.args.calls.now a b p)

pub returns-in-Memory-clause-goes : goal.returns-in-Memory-clause-goes
returns-in-Memory-clause-goes g c = along_call _ _ _ _ c.in-Memory.ensures.told (λ a b p. hears_memory c.args.calls.now a b p)

pub returns-then-answers-clause-dials : goal.returns-then-answers-clause-dials
returns-then-answers-clause-dials g c = λ port. dials_received port _ _ _ c.receive.result c.receive.ensures.told

pub returns-else-answers-clause-dials : goal.returns-else-answers-clause-dials
returns-else-answers-clause-dials g c = λ port. dials_received port _ _ _ c.receive.result c.receive.ensures.told

pub returns-in-Silent-clause-dials : goal.returns-in-Silent-clause-dials
returns-in-Silent-clause-dials g c = λ port. dials_received port _ _ _ c.receive.result c.receive.ensures.told

pub returns-in-Failed-clause-dials : goal.returns-in-Failed-clause-dials
returns-in-Failed-clause-dials g c = λ port. dials_received port _ _ _ c.receive.result c.receive.ensures.told

pub returns-in-Memory-clause-dials : goal.returns-in-Memory-clause-dials
returns-in-Memory-clause-dials g c = λ port. dials_received port _ _ _ c.receive.result c.receive.ensures.told
