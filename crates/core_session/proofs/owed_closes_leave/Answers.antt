use Rattle.core_session.proofs.drops.Shown.{owed-leaves}
use Rattle.core_session.proofs.owed_closes_leave.Goals as goal

pub returns : goal.returns
returns c = owed-leaves
