use Rattle.core_counts.proofs.coarse.FedTrue.{fed-pages-true}
use Rattle.core_counts.proofs.fed_pages_are_true.Goals as goal

pub returns : goal.returns
returns c = fed-pages-true
