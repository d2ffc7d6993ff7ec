use Rattle.core_session.proofs.pending_bytes_are_unsettled.Goals as goal
use Rattle.core_session.proofs.pending.Unsettled.{pending-unsettled}

pub returns : goal.returns
returns c = pending-unsettled
