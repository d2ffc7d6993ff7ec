use Rattle.core_session.proofs.outcomes.OpenRows.{opens-well}
use Rattle.core_session.proofs.opens_go_well.Goals as goal

pub returns : goal.returns
returns c = opens-well
