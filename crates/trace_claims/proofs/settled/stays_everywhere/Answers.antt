-- In the file that is named, and in those that the slot holds.
use Rattle.trace_claims.proofs.Lasting.{everywhere-decides-held, everywhere-decides-named}
use Rattle.trace_claims.proofs.settled.stays_everywhere.Goals as goal

pub returns-then-stays_named : goal.returns-then-stays_named
returns-then-stays_named c = everywhere-decides-held c.args.trace.now c.args.digest.now c.args.total c.args.written.now c.stays_held.result (c.stays_named.ensures.0 c.if-stays_named.true) (rw c.as_slice.ensures.value at c.stays_held.ensures)

pub returns-else-stays_named : goal.returns-else-stays_named
returns-else-stays_named c = everywhere-decides-named c.args.trace.now c.args.digest.now c.args.total c.args.written.now c.stays_named.result c.if-stays_named.false c.stays_named.ensures
