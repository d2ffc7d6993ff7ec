use Rattle.core_counts.proofs.coarse.FedAlong.{names-fed}
use Rattle.core_counts.proofs.names_are_fed.Goals as goal

pub returns : goal.returns
returns c = names-fed
