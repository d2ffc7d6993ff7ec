use Rattle.core_answers.proofs.writes.PendingWritten.{pending-written}
use Rattle.core_answers.proofs.pending_bytes_were_written.Goals as goal

pub returns : goal.returns
returns c = pending-written
