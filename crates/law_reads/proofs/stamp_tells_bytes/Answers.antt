use Rattle.law_reads.proofs.KeptBytes.{same_bytes}
use Rattle.law_reads.proofs.stamp_tells_bytes.Goals as goal

pub returns : goal.returns
returns c = same_bytes
