-- By the least place at which it is settled, if it was written.
use Rattle.trace_claims.proofs.Lasting.{last-from, last-nowhere, last-unwritten}
use Rattle.std.proofs.Common.{sym, ◌∙◌}
use Rattle.trace_claims.proofs.settled.stays_last.Goals as goal

pub returns-then-not-wrote_to : goal.returns-then-not-wrote_to
returns-then-not-wrote_to c = last-unwritten c.args.trace.now c.args.digest.now c.args.entry c.args.written.now c.args.file.now (sym c.wrote_to.ensures ∙ c.if-not-wrote_to.true)

pub returns-in-Some : goal.returns-in-Some
returns-in-Some c =
    last-from c.args.trace.now c.args.digest.now c.args.entry c.args.written.now c.args.file.now c.holds_last.result c.in-Some.settled (sym c.wrote_to.ensures ∙ c.if-not-wrote_to.false)
    (rw (c.in-Some.is, c.as_slice.ensures.value) at c.settling.ensures) c.holds_last.ensures

pub returns-in-None : goal.returns-in-None
returns-in-None c = last-nowhere c.args.trace.now c.args.digest.now c.args.entry c.args.written.now c.args.file.now (rw (c.in-None.is, c.as_slice.ensures.value) at c.settling.ensures)
