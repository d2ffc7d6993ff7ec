use Rattle.two_clients.proofs.Sees.{one-sees, each-sees}
use Rattle.two_clients.proofs.sessions_see_each_other.Goals as goal

pub returns-clause-promised : goal.returns-clause-promised
returns-clause-promised c = one-sees

pub returns-clause-runs : goal.returns-clause-runs
returns-clause-runs c = each-sees
