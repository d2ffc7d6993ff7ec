use Rattle.core_session.proofs.current.OwnRead.{pending-read}
use Rattle.core_session.proofs.pending_bytes_are_read.Goals as goal

pub returns : goal.returns
returns c = pending-read
