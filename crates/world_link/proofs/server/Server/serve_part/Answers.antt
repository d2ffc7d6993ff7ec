use Rattle.std.proofs.Common.{rules, refl, Some}
use Rattle.world_link.specs.Handling.{plain}
use Rattle.world_link.proofs.TurnStaysHonest.{left_stays, told_stays, told_answers}
use Rattle.world_link.proofs.ServerEntriesOnly.{told_goes, quiet_goes}
use Rattle.world_link.proofs.BreaksWrites.{told_is}
use Rattle.world_link.specs.View.{served}
use Rattle.world_link.proofs.EndsStayRight.{executed_ends, executed_answers, left_ends}
use Rattle.world_link.specs.Ends.{ends_of}
use Rattle.world_link.proofs.Pushes.{told_push, kept_at}
use Rattle.world_model.specs.declared.entry.Entry.TheVariants.{Executed}
use Rattle.world_link.proofs.server.Server.serve_part.Goals as goal

pub returns-clause-goes : goal.returns-clause-goes
returns-clause-goes c = told_goes _ _ (Some c.args.part) plain c.args.xid c.args.call c.in_ok-reply.reply c.in_ok-reply.ensures.ok.1 (told_push c.args.self.now.told.items _ (record { end = c.args.end; entry = Executed c.args.xid c.args.call c.in_ok-reply.reply }) (search rules)) (kept_at c.args.self.now.partials.items _ c.args.self.now.told.items c.len-at.result c.args.part (search rules) (search rules)) c.in_ok-reply.ensures.ok.0

pub returns-clause-stays : goal.returns-clause-stays
returns-clause-stays c = told_stays _ _ (Some c.args.part) plain c.args.xid c.args.call c.in_ok-reply.reply c.in_ok-reply.ensures.ok.1 refl (told_push c.args.self.now.told.items _ (record { end = c.args.end; entry = Executed c.args.xid c.args.call c.in_ok-reply.reply }) (search rules)) (kept_at c.args.self.now.partials.items _ c.args.self.now.told.items c.len-at.result c.args.part (search rules) (search rules)) c.in_ok-reply.ensures.ok.0 c.handles_fit.ensures (c.requires.write, c.requires.fails) tt

pub returns-clause-answers : goal.returns-clause-answers
returns-clause-answers c = told_answers (served c.args.self.now).entries _ (Some c.args.part) plain c.args.self.now.export c.args.xid c.args.call c.in_ok-reply.reply c.reply_record-bytes.result c.in_ok-reply.ensures.ok.1 (told_push c.args.self.now.told.items _ (record { end = c.args.end; entry = Executed c.args.xid c.args.call c.in_ok-reply.reply }) (search rules)) c.reply_record-bytes.ensures.spells c.reply_record-bytes.ensures.short

pub returns-in_err-reserve-clause-stays : goal.returns-in_err-reserve-clause-stays
returns-in_err-reserve-clause-stays c a = left_stays _ _ refl refl (search rules) refl

pub returns-in_err-reply-clause-stays : goal.returns-in_err-reply-clause-stays
returns-in_err-reply-clause-stays c a = left_stays _ _ refl c.in_err-reply.ensures.err (search rules) (search rules)

pub returns-in_err-reserve-2-clause-stays : goal.returns-in_err-reserve-2-clause-stays
returns-in_err-reserve-2-clause-stays c a = left_stays _ _ refl refl (search rules) (search rules)

pub returns-in_err-reserve-clause-goes : goal.returns-in_err-reserve-clause-goes
returns-in_err-reserve-clause-goes c = quiet_goes _ _ (search rules) refl refl

pub returns-in_err-reserve-2-clause-goes : goal.returns-in_err-reserve-2-clause-goes
returns-in_err-reserve-2-clause-goes c = quiet_goes _ _ (search rules) (search rules) refl

pub returns-in_err-reply-clause-goes : goal.returns-in_err-reply-clause-goes
returns-in_err-reply-clause-goes c = quiet_goes _ _ (search rules) (search rules) c.in_err-reply.ensures.err

pub returns-clause-told : goal.returns-clause-told
returns-clause-told c = told_is (served c.args.self.now) _ (Some c.args.part) c.args.xid c.args.call _ c.in_ok-reply.reply c.reply_record-bytes.result refl c.in_ok-reply.ensures.ok.1 (told_push c.args.self.now.told.items _ (record { end = c.args.end; entry = Executed c.args.xid c.args.call c.in_ok-reply.reply }) (search rules)) (kept_at c.args.self.now.partials.items _ c.args.self.now.told.items c.len-at.result c.args.part (search rules) (search rules)) c.in_ok-reply.ensures.ok.0

pub returns-clause-ends : goal.returns-clause-ends
returns-clause-ends c = executed_ends _ _ c.args.end c.args.xid c.args.call c.in_ok-reply.reply refl (search rules)

pub returns-clause-answers_to : goal.returns-clause-answers_to
returns-clause-answers_to c = executed_answers (ends_of c.args.self.now).told _ (Some c.args.part) plain c.args.self.now.export c.args.end c.args.xid c.args.call c.in_ok-reply.reply c.reply_record-bytes.result c.in_ok-reply.ensures.ok.1 (search rules) c.reply_record-bytes.ensures.spells

pub returns-in_err-reserve-clause-ends : goal.returns-in_err-reserve-clause-ends
returns-in_err-reserve-clause-ends c = left_ends _ _ _ refl (search rules)

pub returns-in_err-reply-clause-ends : goal.returns-in_err-reply-clause-ends
returns-in_err-reply-clause-ends c = left_ends _ _ _ refl (search rules)

pub returns-in_err-reserve-2-clause-ends : goal.returns-in_err-reserve-2-clause-ends
returns-in_err-reserve-2-clause-ends c = left_ends _ _ _ refl (search rules)
