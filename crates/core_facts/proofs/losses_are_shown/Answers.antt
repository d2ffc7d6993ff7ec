use Rattle.core_facts.proofs.Losing.{reached-shown}
use Rattle.core_facts.proofs.losses_are_shown.Goals as goal

pub returns : goal.returns
returns c = reached-shown
