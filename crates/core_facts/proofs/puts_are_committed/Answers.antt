use Rattle.core_facts.proofs.PutStory.{puts-committed}
use Rattle.core_facts.proofs.puts_are_committed.Goals as goal

pub returns : goal.returns
returns c = puts-committed
