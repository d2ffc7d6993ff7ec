use Rattle.file_ops.proofs.Stills.{write-still}
use Rattle.file_ops.proofs.laws.write_waits_still.Goals as goal

pub returns : goal.returns
returns c = write-still
