use Rattle.core_session.proofs.pending_bytes_are_held_back.Goals as goal
use Rattle.core_session.proofs.pending.Unsettled.{pending-held}

pub returns : goal.returns
returns c = pending-held
