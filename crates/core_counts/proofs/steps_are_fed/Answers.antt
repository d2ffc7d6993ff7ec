use Rattle.core_counts.proofs.coarse.FedAlong.{core-fed}
use Rattle.core_counts.proofs.steps_are_fed.Goals as goal

pub returns : goal.returns
returns c = core-fed
