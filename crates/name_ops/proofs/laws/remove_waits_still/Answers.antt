use Rattle.name_ops.proofs.Stills.{remove-still}
use Rattle.name_ops.proofs.laws.remove_waits_still.Goals as goal

pub returns : goal.returns
returns c = remove-still
