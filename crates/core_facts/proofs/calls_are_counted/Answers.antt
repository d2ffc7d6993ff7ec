use Rattle.core_facts.proofs.AllCounts.{counts-calls}
use Rattle.core_facts.proofs.calls_are_counted.Goals as goal

pub returns : goal.returns
returns c = counts-calls
