use Rattle.core_session.proofs.outcomes.OwnFaults.{faults-own}
use Rattle.core_session.proofs.faults_are_of_their_operations.Goals as goal

pub returns : goal.returns
returns c = faults-own
