use Rattle.core_answers.proofs.bonds.NamesShown.{names-shown}
use Rattle.core_answers.proofs.names_were_shown.Goals as goal

pub returns : goal.returns
returns c = names-shown
