use Rattle.name_ops.proofs.Stills.{copy-still}
use Rattle.name_ops.proofs.laws.copy_waits_still.Goals as goal

pub returns : goal.returns
returns c = copy-still
