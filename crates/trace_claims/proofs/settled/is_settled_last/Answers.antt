-- By all operations.
use Rattle.trace_claims.proofs.settled.is_settled_last.Goals as goal

pub returns : goal.returns
returns c = rw c.as_slice.ensures.value at c.all_last.ensures
