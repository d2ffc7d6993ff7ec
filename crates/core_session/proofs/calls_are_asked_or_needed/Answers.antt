use Rattle.core_session.proofs.room.Needed.{calls-needed}
use Rattle.core_session.proofs.calls_are_asked_or_needed.Goals as goal

pub returns : goal.returns
returns c = calls-needed
