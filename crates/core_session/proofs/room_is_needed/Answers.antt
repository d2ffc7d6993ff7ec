use Rattle.core_session.proofs.room.Needed.{room-needed}
use Rattle.core_session.proofs.room_is_needed.Goals as goal

pub returns : goal.returns
returns c = room-needed
