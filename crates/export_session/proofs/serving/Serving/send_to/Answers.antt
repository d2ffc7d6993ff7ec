use Rattle.std.proofs.Common.{Some, None, refl}
use Rattle.outside.specs.declared.datagrams.DatagramEntry.TheVariants.{Aimed}
use Rattle.export_session.specs.Senders.{missed, no_memory}
use Rattle.export_session.proofs.Doing.{does_all_call, does_all_exactly, does_all_then}
use Rattle.export_session.proofs.SenderTurns.{aimed_then}
use Rattle.export_session.proofs.serving.Serving.send_to.Goals as goal

pub returns-in-Ok-clause-sends : goal.returns-in-Ok-clause-sends
returns-in-Ok-clause-sends g c =
    does_all_then _ _ _ _ _ _ (λ es fs p q. aimed_then c.args.port c.args.reply.now c.send_aimed.result _ _ es fs p q) (does_all_exactly _ _ (Some (Aimed c.args.port)) c.in-Ok.ensures.told) c.send_aimed.ensures.sends

pub returns-in-Err-Failed-clause-sends : goal.returns-in-Err-Failed-clause-sends
returns-in-Err-Failed-clause-sends g c =
    let r = rw c.in-Err-Failed.field-0-is at c.in-Err-Failed.ensures in does_all_call _ _ (Some (Aimed c.args.port)) _ r.told (missed refl refl refl)

pub returns-in-Err-Memory-clause-sends : goal.returns-in-Err-Memory-clause-sends
returns-in-Err-Memory-clause-sends g c = let r = rw c.in-Err-Memory.field-0-is at c.in-Err-Memory.ensures in does_all_call _ _ None _ r.told (no_memory refl refl refl)
