use Rattle.world_link.proofs.ServerEntriesOnly.{then_goes}
use Rattle.world_link.proofs.TurnStaysHonest.{then_stays, sent_goes, answer_goes}
use Rattle.world_link.proofs.EndsStayRight.{ends_then, ends_any, sent_after, answer_after}
use Rattle.world_link.proofs.server.Server.turn.Goals as goal

pub returns-in_err-happen_all-clause-goes : goal.returns-in_err-happen_all-clause-goes
returns-in_err-happen_all-clause-goes c = then_goes _ _ _ c.in_ok-copy_all.ensures.goes c.in_err-happen_all.ensures.goes

pub returns-in_err-reply-clause-goes : goal.returns-in_err-reply-clause-goes
returns-in_err-reply-clause-goes c = then_goes _ _ _ (then_goes _ _ _ c.in_ok-copy_all.ensures.goes c.in_ok-happen_all.ensures.goes) c.in_err-reply.ensures.goes

pub returns-in_err-happen_all-2-clause-goes : goal.returns-in_err-happen_all-2-clause-goes
returns-in_err-happen_all-2-clause-goes c =
    then_goes _ _ _ (then_goes _ _ _ (then_goes _ _ _ c.in_ok-copy_all.ensures.goes c.in_ok-happen_all.ensures.goes) c.in_ok-reply.ensures.goes) c.in_err-happen_all-2.ensures.goes

pub returns-clause-goes : goal.returns-clause-goes
returns-clause-goes c =
    then_goes _ _ _ (then_goes _ _ _ (then_goes _ _ _ (then_goes _ _ _ c.in_ok-copy_all.ensures.goes c.in_ok-happen_all.ensures.goes) c.in_ok-reply.ensures.goes) c.in_ok-happen_all-2.ensures.goes) c.reply-2.ensures.goes

pub returns-in_err-happen_all-clause-stays : goal.returns-in_err-happen_all-clause-stays
returns-in_err-happen_all-clause-stays c m s = then_stays _ _ _ c.in_ok-copy_all.ensures.stays c.in_err-happen_all.ensures.stays

pub returns-in_err-reply-clause-stays : goal.returns-in_err-reply-clause-stays
returns-in_err-reply-clause-stays c m s =
    let two = then_goes _ _ _ c.in_ok-copy_all.ensures.goes c.in_ok-happen_all.ensures.goes in
    then_stays _ _ _ (then_stays _ _ _ c.in_ok-copy_all.ensures.stays c.in_ok-happen_all.ensures.stays) (c.in_err-reply.ensures.stays m (sent_goes _ _ c.args.rec.now two s))

pub returns-in_err-happen_all-2-clause-stays : goal.returns-in_err-happen_all-2-clause-stays
returns-in_err-happen_all-2-clause-stays c m s =
    let two = then_goes _ _ _ c.in_ok-copy_all.ensures.goes c.in_ok-happen_all.ensures.goes in
    then_stays _ _ _ (then_stays _ _ _ (then_stays _ _ _ c.in_ok-copy_all.ensures.stays c.in_ok-happen_all.ensures.stays) (c.in_ok-reply.ensures.stays m (sent_goes _ _ c.args.rec.now two s))) c.in_err-happen_all-2.ensures.stays

pub returns-clause-stays : goal.returns-clause-stays
returns-clause-stays c m s =
    let two = then_goes _ _ _ c.in_ok-copy_all.ensures.goes c.in_ok-happen_all.ensures.goes in
    let sent = sent_goes _ _ c.args.rec.now two s in
    then_stays _ _ _ (then_stays _ _ _ (then_stays _ _ _ (then_stays _ _ _ c.in_ok-copy_all.ensures.stays c.in_ok-happen_all.ensures.stays) (c.in_ok-reply.ensures.stays m sent)) c.in_ok-happen_all-2.ensures.stays)
    (c.reply-2.ensures.stays (answer_goes _ _ c.in_ok-reply.reply c.in_ok-happen_all-2.ensures.goes (c.in_ok-reply.ensures.answers sent)))

pub returns-in_err-happen_all-clause-ends : goal.returns-in_err-happen_all-clause-ends
returns-in_err-happen_all-clause-ends c = ends_any _ _ _ (ends_then _ _ _ _ _ c.in_ok-copy_all.ensures.ends c.in_err-happen_all.ensures.ends (λ t. t))

pub returns-in_err-reply-clause-ends : goal.returns-in_err-reply-clause-ends
returns-in_err-reply-clause-ends c =
    let two = ends_then _ _ _ _ _ c.in_ok-copy_all.ensures.ends c.in_ok-happen_all.ensures.ends (λ t. t) in
    ends_then _ _ _ _ _ (ends_any _ _ _ two) c.in_err-reply.ensures.ends (λ s. sent_after _ _ _ two s)

pub returns-in_err-happen_all-2-clause-ends : goal.returns-in_err-happen_all-2-clause-ends
returns-in_err-happen_all-2-clause-ends c =
    let two = ends_then _ _ _ _ _ c.in_ok-copy_all.ensures.ends c.in_ok-happen_all.ensures.ends (λ t. t) in
    let three = ends_then _ _ _ _ _ (ends_any _ _ _ two) c.in_ok-reply.ensures.ends (λ s. sent_after _ _ _ two s) in
    ends_then _ _ _ _ _ three c.in_err-happen_all-2.ensures.ends (λ s. tt)

pub returns-clause-ends : goal.returns-clause-ends
returns-clause-ends c =
    let two = ends_then _ _ _ _ _ c.in_ok-copy_all.ensures.ends c.in_ok-happen_all.ensures.ends (λ t. t) in
    let three = ends_then _ _ _ _ _ (ends_any _ _ _ two) c.in_ok-reply.ensures.ends (λ s. sent_after _ _ _ two s) in
    let four = ends_then _ _ _ _ _ three c.in_ok-happen_all-2.ensures.ends (λ s. tt) in
    ends_then _ _ _ _ _ four c.reply-2.ensures.ends (λ s. answer_after _ _ c.args.end c.in_ok-reply.reply c.in_ok-happen_all-2.ensures.ends (c.in_ok-reply.ensures.answers_to (sent_after _ _ _ two s)))
