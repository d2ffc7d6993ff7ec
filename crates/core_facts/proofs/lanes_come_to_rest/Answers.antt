use Rattle.core_facts.proofs.Resting.{comes-to-rest}
use Rattle.core_facts.proofs.lanes_come_to_rest.Goals as goal

pub returns : goal.returns
returns c = comes-to-rest
