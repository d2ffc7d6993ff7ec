use Rattle.core_session.proofs.outcomes.RemoveRows.{removes-well}
use Rattle.core_session.proofs.removes_go_well.Goals as goal

pub returns : goal.returns
returns c = removes-well
