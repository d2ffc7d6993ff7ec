-- By what the session is told.
use Rattle.std.proofs.Common.{sym, ◌∙◌}
use Rattle.trace_claims.proofs.Clocking.{since-read, since-kept, since-open}
use Rattle.trace_claims.proofs.readings.since.Goals as goal

pub returns-then-asks_again : goal.returns-then-asks_again
returns-then-asks_again c = since-read c.args.trace.now c.args.read c.args.opened (sym c.asks_again.ensures ∙ c.if-asks_again.true)

pub returns-then-may_keep : goal.returns-then-may_keep
returns-then-may_keep c = since-kept c.args.trace.now c.args.read c.args.opened c.since_kept.result (sym c.asks_again.ensures ∙ c.if-asks_again.false) (sym c.may_keep.ensures ∙ c.if-may_keep.true) (rw c.as_slice.ensures.value at c.since_kept.ensures)

pub returns : goal.returns
returns c = since-open c.args.trace.now c.args.read c.args.opened (sym c.asks_again.ensures ∙ c.if-asks_again.false) (sym c.may_keep.ensures ∙ c.if-may_keep.false)
