use Rattle.name_ops.proofs.Stills.{walk-still}
use Rattle.name_ops.proofs.laws.walk_waits_still.Goals as goal

pub returns : goal.returns
returns c = walk-still
