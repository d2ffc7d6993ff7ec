-- Of a read that succeeded, or of none.
use Rattle.std.proofs.Common.{sym, ◌∙◌, true}
use Rattle.trace_claims.proofs.Gathering.{reads-adds-ok, reads-not}
use Rattle.trace_claims.proofs.readings.add_readings.Goals as goal

pub returns-then-reads : goal.returns-then-reads
returns-then-reads c = reads-adds-ok c.args.trace.now c.args.operation.now c.args.all.now.items _ c.add_of_holds.result (sym (rw c.as_slice.ensures.value at c.reads.ensures) ∙ c.if-reads.true) (rw c.as_slice-then-reads.ensures.value at c.add_of_holds.ensures)

pub returns-else-reads : goal.returns-else-reads
returns-else-reads c = reads-not c.args.trace.now c.args.operation.now c.args.all.now.items (sym (rw c.as_slice.ensures.value at c.reads.ensures) ∙ c.if-reads.false)
