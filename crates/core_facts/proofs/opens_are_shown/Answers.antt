use Rattle.core_facts.proofs.OpenTheorems.{opens-shown}
use Rattle.core_facts.proofs.opens_are_shown.Goals as goal

pub returns : goal.returns
returns c = opens-shown
