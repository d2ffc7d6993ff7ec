use Rattle.std.proofs.Common.{Some, None, refl}
use Rattle.outside.specs.declared.datagrams.DatagramEntry.TheVariants.{Sent, Missed}
use Rattle.export_session.proofs.Doing.{does_all_call}
use Rattle.export_session.proofs.SenderTurns.{sent_so}
use Rattle.export_session.proofs.serving.Serving.send_aimed.Goals as goal

pub returns-in-Ok-clause-sends : goal.returns-in-Ok-clause-sends
returns-in-Ok-clause-sends g c =
    does_all_call _ _ (Some (Sent c.args.reply.now)) _ c.in-Ok.ensures.told (sent_so c.args.reply.now c.count_call.result _ _ c.count_call.ensures.counts c.count_call.ensures.goes_on)

pub returns-in-Err-Failed-clause-sends : goal.returns-in-Err-Failed-clause-sends
returns-in-Err-Failed-clause-sends g c = let r = rw c.in-Err-Failed.field-0-is at c.in-Err-Failed.ensures in does_all_call _ _ (Some Missed) _ r.told (refl, refl)

pub returns-in-Err-Memory-clause-sends : goal.returns-in-Err-Memory-clause-sends
returns-in-Err-Memory-clause-sends g c = let r = rw c.in-Err-Memory.field-0-is at c.in-Err-Memory.ensures in does_all_call _ _ None _ r.told (refl, refl)
