use Rattle.core_answers.proofs.paths.FoundNames.{opens-found}
use Rattle.core_answers.proofs.opens_find_their_names.Goals as goal

pub returns : goal.returns
returns c = opens-found
