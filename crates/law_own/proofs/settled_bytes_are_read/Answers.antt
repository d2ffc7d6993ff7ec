use Rattle.law_own.proofs.Settled.{settled-are-read}
use Rattle.law_own.proofs.settled_bytes_are_read.Goals as goal

pub returns : goal.returns
returns c = settled-are-read
