use Rattle.core_facts.proofs.OpenTheorems.{kinds-shown}
use Rattle.core_facts.proofs.kinds_are_shown.Goals as goal

pub returns : goal.returns
returns c = kinds-shown
