use Rattle.core_answers.proofs.reads.ReadsFrom.{reads-given}
use Rattle.core_answers.proofs.reads_are_given.Goals as goal

pub returns : goal.returns
returns c = reads-given
