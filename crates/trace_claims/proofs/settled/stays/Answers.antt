-- By the least place at which it is settled, if it was written.
use Rattle.trace_claims.proofs.Lasting.{so-from, so-nowhere, so-unwritten}
use Rattle.std.proofs.Common.{sym, ◌∙◌}
use Rattle.trace_claims.proofs.settled.stays.Goals as goal

pub returns-then-not-wrote_to : goal.returns-then-not-wrote_to
returns-then-not-wrote_to c = so-unwritten c.args.trace.now c.args.digest.now c.args.total c.args.written.now c.args.file.now (sym c.wrote_to.ensures ∙ c.if-not-wrote_to.true)

pub returns-in-Some : goal.returns-in-Some
returns-in-Some c =
    so-from c.args.trace.now c.args.digest.now c.args.total c.args.written.now c.args.file.now c.stays_from.result c.in-Some.settled (sym c.wrote_to.ensures ∙ c.if-not-wrote_to.false)
    (rw (c.in-Some.is, c.as_slice.ensures.value) at c.settling.ensures) c.stays_from.ensures

pub returns-in-None : goal.returns-in-None
returns-in-None c = so-nowhere c.args.trace.now c.args.digest.now c.args.total c.args.written.now c.args.file.now (rw (c.in-None.is, c.as_slice.ensures.value) at c.settling.ensures)
