use Rattle.law_stable.proofs.Stays.{written_there}
use Rattle.law_stable.proofs.written_byte_is_there.Goals as goal

pub returns : goal.returns
returns c = written_there
