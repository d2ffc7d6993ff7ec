use Rattle.std.proofs.Common.{refl, sym}
use Rattle.export_session.specs.Senders.{at_an_answer}
use Rattle.export_session.proofs.Doing.{does_all_none, does_all_so}
use Rattle.export_session.proofs.SenderTurns.{stray_turn, answered_turn}
use Rattle.export_session.proofs.serving.Serving.answer_to.Goals as goal

pub returns-in-Ok-Some-clause-turns : goal.returns-in-Ok-Some-clause-turns
returns-in-Ok-Some-clause-turns g c =
    let r = rw c.in-Ok-Some.field-0-is at c.in-Ok-Some.ensures in
    does_all_so _ _ _ _
    (λ es p. answered_turn c.args.port c.args.record.now c.in-Ok-Some.reply c.send_to.result c.args.self.now c.reply_to.new.self _ es (sym r.answers) r.serves r.steps p)
    (rw c.bytes.ensures at c.send_to.ensures.sends)

pub returns-in-Ok-None-clause-turns : goal.returns-in-Ok-None-clause-turns
returns-in-Ok-None-clause-turns g c =
    let r = rw c.in-Ok-None.field-0-is at c.in-Ok-None.ensures in
    does_all_none _ _ (stray_turn c.args.port c.args.record.now c.count_stray.result c.args.self.now c.reply_to.new.self _ (sym r.answers) r.serves c.count_stray.ensures.counts c.count_stray.ensures.goes_on)

pub returns-in-Err-clause-turns : goal.returns-in-Err-clause-turns
returns-in-Err-clause-turns g c = does_all_none _ _ (at_an_answer c.args.port c.args.record.now refl c.in-Err.ensures.memory)
