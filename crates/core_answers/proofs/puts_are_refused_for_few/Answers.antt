use Rattle.core_answers.proofs.answers.PutRules.{put-faults-few}
use Rattle.core_answers.proofs.puts_are_refused_for_few.Goals as goal

pub returns : goal.returns
returns c = put-faults-few
