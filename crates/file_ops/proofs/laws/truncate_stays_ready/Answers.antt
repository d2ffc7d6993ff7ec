use Rattle.file_ops.proofs.Steps.{truncate-takes-ready}
use Rattle.file_ops.proofs.laws.truncate_stays_ready.Goals as goal

pub returns : goal.returns
returns c = truncate-takes-ready
