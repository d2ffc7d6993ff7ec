-- The last record tells the last call.
use Rattle.trace_answers.proofs.Callings.{last-came, last-of, none-called}
use Rattle.trace_answers.proofs.calls.last_call.Goals as goal

pub call_at-requires : goal.call_at-requires
call_at-requires c = last-came c.args.entries.now c.args.place c.in-Some.at (rw c.in-Some.is at c.last_record.ensures)

pub returns-in-Some : goal.returns-in-Some
returns-in-Some c = last-of c.args.entries.now c.args.place c.in-Some.at (rw c.in-Some.is at c.last_record.ensures) c.call_at.result c.call_at.ensures

pub returns-in-None : goal.returns-in-None
returns-in-None c = none-called c.args.entries.now c.args.place (rw c.in-None.is at c.last_record.ensures)
