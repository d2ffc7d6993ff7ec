use Rattle.name_ops.proofs.Stills.{stat-still}
use Rattle.name_ops.proofs.laws.stat_waits_still.Goals as goal

pub returns : goal.returns
returns c = stat-still
