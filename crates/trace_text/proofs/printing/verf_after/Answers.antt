-- One update more.
use Rattle.std.proofs.Common.{◌∙◌}
use Rattle.trace_text.proofs.Paging.{verf_next}
use Rattle.trace_text.proofs.printing.verf_after.Goals as goal

pub returns : goal.returns
returns c = (rw c.as_slice.ensures.value at c.verf_at.ensures) ∙ verf_next c.args.trace.now.start.verf c.args.trace.now.updates.items c.args.entry
