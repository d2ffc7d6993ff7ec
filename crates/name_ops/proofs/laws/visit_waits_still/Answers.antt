use Rattle.name_ops.proofs.Stills.{visit-still}
use Rattle.name_ops.proofs.laws.visit_waits_still.Goals as goal

pub returns : goal.returns
returns c = visit-still
