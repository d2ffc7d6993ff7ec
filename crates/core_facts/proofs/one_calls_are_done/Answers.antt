use Rattle.core_facts.proofs.OneCalled.{one-calls-done}
use Rattle.core_facts.proofs.one_calls_are_done.Goals as goal

pub returns : goal.returns
returns c = one-calls-done
