use Rattle.core_facts.proofs.Noting.{notes-reach}
use Rattle.core_facts.proofs.histories_are_reached.Goals as goal

pub returns : goal.returns
returns c = notes-reach
