use Rattle.core_answers.proofs.paths.PutNames.{names-held}
use Rattle.core_answers.proofs.names_were_held.Goals as goal

pub returns : goal.returns
returns c = names-held
