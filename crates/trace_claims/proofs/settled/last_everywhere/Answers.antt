-- In the file that is named, and in those that the slot holds.
use Rattle.trace_claims.proofs.Lasting.{last-decides-held, last-decides-named}
use Rattle.trace_claims.proofs.settled.last_everywhere.Goals as goal

pub returns-then-last_named : goal.returns-then-last_named
returns-then-last_named c = last-decides-held c.args.trace.now c.args.digest.now c.args.entry c.args.written.now c.last_held.result (c.last_named.ensures.0 c.if-last_named.true) (rw c.as_slice.ensures.value at c.last_held.ensures)

pub returns-else-last_named : goal.returns-else-last_named
returns-else-last_named c = last-decides-named c.args.trace.now c.args.digest.now c.args.entry c.args.written.now c.last_named.result c.if-last_named.false c.last_named.ensures
