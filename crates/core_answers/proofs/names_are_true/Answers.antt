use Rattle.core_answers.proofs.bonds.NamesShown.{names-true}
use Rattle.core_answers.proofs.names_are_true.Goals as goal

pub returns : goal.returns
returns c = names-true
