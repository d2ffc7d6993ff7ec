use Rattle.law_reads.proofs.KeptBytes.{true_byte}
use Rattle.law_reads.proofs.kept_byte_is_true.Goals as goal

pub returns : goal.returns
returns c = true_byte
