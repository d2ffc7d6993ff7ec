use Rattle.core_counts.proofs.coarse.FedAlong.{pages-fed}
use Rattle.core_counts.proofs.pages_are_fed.Goals as goal

pub returns : goal.returns
returns c = pages-fed
