use Rattle.core_facts.proofs.Coming.{lanes-wait}
use Rattle.core_facts.proofs.lanes_wait.Goals as goal

pub returns : goal.returns
returns c = lanes-wait
