use Rattle.core_answers.proofs.reads.ReadsFrom.{reads-from}
use Rattle.core_answers.proofs.reads_are_from.Goals as goal

pub returns : goal.returns
returns c = reads-from
