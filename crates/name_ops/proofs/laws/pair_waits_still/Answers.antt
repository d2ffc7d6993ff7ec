use Rattle.name_ops.proofs.Stills.{pair-still}
use Rattle.name_ops.proofs.laws.pair_waits_still.Goals as goal

pub returns : goal.returns
returns c = pair-still
