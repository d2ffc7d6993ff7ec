use Rattle.core_counts.proofs.coarse.FedFiles.{lists-taken}
use Rattle.core_counts.proofs.lists_are_taken.Goals as goal

pub returns : goal.returns
returns c = lists-taken
