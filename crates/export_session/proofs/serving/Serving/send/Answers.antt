use Rattle.std.proofs.Common.{refl}
use Rattle.export_session.proofs.Doing.{does_none}
use Rattle.export_session.proofs.serving.Serving.send.Goals as goal

pub returns-in-Ok-clause-sends : goal.returns-in-Ok-clause-sends
returns-in-Ok-clause-sends g c = rw c.in-Ok.ensures at c.send_record.ensures.sends

pub returns-in-Err-clause-sends : goal.returns-in-Err-clause-sends
returns-in-Err-clause-sends g c = does_none _ _ (refl, refl)
