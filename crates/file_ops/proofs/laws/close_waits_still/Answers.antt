use Rattle.file_ops.proofs.Waits.{close-still}
use Rattle.file_ops.proofs.laws.close_waits_still.Goals as goal

pub returns : goal.returns
returns c = close-still
