use Rattle.core_session.proofs.outcomes.RemoveRefusals.{removes-refused}
use Rattle.core_session.proofs.removes_are_refused_by_their_calls.Goals as goal

pub returns : goal.returns
returns c = removes-refused
