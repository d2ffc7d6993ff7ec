use Rattle.std.proofs.Common.{rules}
use Rattle.world_link.proofs.TurnStaysHonest.{copied_stays, copied_part, ready_result_stays}
use Rattle.world_link.proofs.TurnParts.{copied_is}
use Rattle.world_link.proofs.EndsStayRight.{copied_ends, copied_part_ends}
use Rattle.world_link.proofs.server.Server.copy.Goals as goal

pub returns-in_ok-reply-in-Some-clause-ok : goal.returns-in_ok-reply-in-Some-clause-ok
returns-in_ok-reply-in-Some-clause-ok c = copied_is _ _ _ _ c.args.sending.now c.bytes.result.now c.in_ok-asked-in-Some.asked c.in_ok-reply-in-Some.reply (search rules) c.in_ok-asked-in-Some.ensures.exact c.in_ok-reply-in-Some.ensures.done c.make_ready.ensures.ok

pub returns-in_ok-reply-in-Some-clause-stays : goal.returns-in_ok-reply-in-Some-clause-stays
returns-in_ok-reply-in-Some-clause-stays c = copied_stays _ _ _ c.args.sending.now c.bytes.result.now c.in_ok-asked-in-Some.asked c.in_ok-reply-in-Some.reply (search rules) c.in_ok-asked-in-Some.ensures.sound (c.in_ok-reply-in-Some.ensures.stays tt) c.in_ok-reply-in-Some.ensures.answers (λ a. ready_result_stays _ _ c.in_ok-reply-in-Some.reply c.make_ready.result c.make_ready.ensures.ok c.make_ready.ensures.err a)

pub returns-in_err-reply-in-Some-clause-stays : goal.returns-in_err-reply-in-Some-clause-stays
returns-in_err-reply-in-Some-clause-stays c = copied_part _ _ c.args.sending.now c.bytes.result.now c.in_ok-asked-in-Some.asked (search rules) c.in_ok-asked-in-Some.ensures.sound (c.in_err-reply-in-Some.ensures.stays tt)

pub returns-in_ok-reply-in-Some-clause-ends : goal.returns-in_ok-reply-in-Some-clause-ends
returns-in_ok-reply-in-Some-clause-ends c =
    copied_ends _ _ _ c.args.sending.now (record { end = c.end-end.result; bytes = c.bytes.result.now }) c.in_ok-asked-in-Some.asked c.in_ok-reply-in-Some.reply (search rules) c.in_ok-asked-in-Some.ensures.sound c.in_ok-reply-in-Some.ensures.ends
    c.in_ok-reply-in-Some.ensures.answers_to c.make_ready.ensures.ends

pub returns-in_err-reply-in-Some-clause-ends : goal.returns-in_err-reply-in-Some-clause-ends
returns-in_err-reply-in-Some-clause-ends c =
    copied_part_ends _ _ c.args.sending.now (record { end = c.end-end.result; bytes = c.bytes.result.now }) c.in_ok-asked-in-Some.asked (search rules) c.in_ok-asked-in-Some.ensures.sound c.in_err-reply-in-Some.ensures.ends
