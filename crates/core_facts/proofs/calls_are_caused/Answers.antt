use Rattle.core_facts.proofs.OneCalled.{calls-caused}
use Rattle.core_facts.proofs.calls_are_caused.Goals as goal

pub returns : goal.returns
returns c = calls-caused
