use Rattle.std.proofs.Common.{Some, None, refl}
use Rattle.outside.specs.declared.datagrams.DatagramEntry.TheVariants.{Came, Missed}
use Rattle.export_session.specs.Senders.{silent, before_a_record}
use Rattle.export_session.proofs.Doing.{does_all_call, does_all_exactly, does_all_then}
use Rattle.export_session.proofs.SenderTurns.{came_then}
use Rattle.export_session.proofs.serving.Serving.serve_datagram.Goals as goal

pub returns-in-From-clause-turns : goal.returns-in-From-clause-turns
returns-in-From-clause-turns g c =
    does_all_then _ _ _ _ _ _ (λ es fs p q. came_then c.in-From.port _ c.answer_to.result _ _ es fs p q) (does_all_exactly _ _ (Some (Came c.in-From.port _)) c.in-From.ensures.told)
    (rw c.as_slice.ensures.value at c.answer_to.ensures.turns)

pub returns-in-Silent-clause-turns : goal.returns-in-Silent-clause-turns
returns-in-Silent-clause-turns g c = does_all_call _ _ (Some Missed) _ c.in-Silent.ensures.told (silent refl refl)

pub returns-in-Failed-clause-turns : goal.returns-in-Failed-clause-turns
returns-in-Failed-clause-turns g c = does_all_call _ _ (Some Missed) _ c.in-Failed.ensures.told (silent refl refl)

pub returns-in-Memory-clause-turns : goal.returns-in-Memory-clause-turns
returns-in-Memory-clause-turns g c = does_all_call _ _ None _ c.in-Memory.ensures.told (before_a_record refl refl)
