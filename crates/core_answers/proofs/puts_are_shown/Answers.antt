use Rattle.core_answers.proofs.answers.PutRows.{puts-shown}
use Rattle.core_answers.proofs.puts_are_shown.Goals as goal

pub returns : goal.returns
returns c = puts-shown
