-- By all entries.
use Rattle.trace_claims.proofs.changes.all_foreign.Goals as goal

pub collect-requires : goal.collect-requires
collect-requires c = c.as_slice.ensures.value

pub returns : goal.returns
returns c = rw c.as_slice.ensures.value at c.collect.ensures
