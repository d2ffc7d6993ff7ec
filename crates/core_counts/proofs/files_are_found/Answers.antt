use Rattle.core_counts.proofs.coarse.FedFiles.{files-found}
use Rattle.core_counts.proofs.files_are_found.Goals as goal

pub returns : goal.returns
returns c = files-found
