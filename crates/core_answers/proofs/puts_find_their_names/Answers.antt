use Rattle.core_answers.proofs.paths.PutNames.{puts-found}
use Rattle.core_answers.proofs.puts_find_their_names.Goals as goal

pub returns : goal.returns
returns c = puts-found
