-- It is that of the first record under the xid.
use Rattle.trace_answers.proofs.Callings.{before-late, before-never, first-below, of-before}
use Rattle.trace_answers.proofs.calls.call_before.Goals as goal

pub sent_bytes-requires : goal.sent_bytes-requires
sent_bytes-requires c = first-below c.args.entries.now c.args.xid c.in-Some.sent (rw c.in-Some.is at c.first_sent.ensures)

pub returns-then-sent-place : goal.returns-then-sent-place
returns-then-sent-place c =
    of-before c.args.entries.now c.args.xid c.args.place c.in-Some.sent (rw c.in-Some.is at c.first_sent.ensures) c.if-sent-place.true c.call_of.result (rw c.sent_bytes.ensures at c.call_of.ensures)

pub returns-else-sent-place : goal.returns-else-sent-place
returns-else-sent-place c = before-late c.args.entries.now c.args.xid c.args.place c.in-Some.sent (rw c.in-Some.is at c.first_sent.ensures) c.if-sent-place.false

pub returns-in-None : goal.returns-in-None
returns-in-None c = before-never c.args.entries.now c.args.xid c.args.place (rw c.in-None.is at c.first_sent.ensures)
