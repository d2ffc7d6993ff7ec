use Rattle.std.proofs.Common.{refl, sym}
use Rattle.export_session.specs.declared.next.End.TheVariants.{Served, Lost}
use Rattle.export_session.specs.Talk.{at_an_answer}
use Rattle.export_session.proofs.Doing.{does_none, does_so}
use Rattle.export_session.proofs.Turning.{stray_turn, answered_turn, closes, stops_so}
use Rattle.export_session.proofs.serving.Serving.answer.Goals as goal

pub returns-in-Ok-Some-clause-turns : goal.returns-in-Ok-Some-clause-turns
returns-in-Ok-Some-clause-turns g c =
    let r = rw c.in-Ok-Some.field-0-is at c.in-Ok-Some.ensures in
    does_so _ _ _ _
    (λ es p. closes c.send-next.result c.close_after.result _ _ _ c.close_after.ensures (answered_turn c.args.record.now c.in-Ok-Some.reply c.send-next.result c.args.self.now c.reply_to.new.self _ es (sym r.answers) r.serves r.steps p))
    (rw c.bytes.ensures at c.send-next.ensures.sends)

pub returns-in-Ok-Some-clause-served : goal.returns-in-Ok-Some-clause-served
returns-in-Ok-Some-clause-served g c = λ e. c.send-next.ensures.served (stops_so c.send-next.result c.close_after.result Served c.close_after.ensures e)

pub returns-in-Ok-Some-clause-lost : goal.returns-in-Ok-Some-clause-lost
returns-in-Ok-Some-clause-lost g c = λ e. c.send-next.ensures.lost (stops_so c.send-next.result c.close_after.result Lost c.close_after.ensures e)

pub returns-in-Ok-None-clause-turns : goal.returns-in-Ok-None-clause-turns
returns-in-Ok-None-clause-turns g c =
    let r = rw c.in-Ok-None.field-0-is at c.in-Ok-None.ensures in
    does_none _ _ (stray_turn c.args.record.now c.count_stray.result c.args.self.now c.reply_to.new.self _ (sym r.answers) r.serves c.count_stray.ensures.counts c.count_stray.ensures.goes_on)

pub returns-in-Err-clause-turns : goal.returns-in-Err-clause-turns
returns-in-Err-clause-turns g c = does_none _ _ (at_an_answer c.args.record.now refl c.in-Err.ensures.memory)
