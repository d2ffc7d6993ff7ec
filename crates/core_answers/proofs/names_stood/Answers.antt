use Rattle.core_answers.proofs.bonds.NamesShown.{names-stood}
use Rattle.core_answers.proofs.names_stood.Goals as goal

pub returns : goal.returns
returns c = names-stood
