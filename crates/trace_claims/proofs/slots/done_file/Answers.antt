-- By the calls of the last record that came.
use Rattle.trace_claims.proofs.Namings.{end-within, opened-ok, put-ok, other-none}
use Rattle.trace_claims.proofs.slots.done_file.Goals as goal

pub opened_file-requires : goal.opened_file-requires
opened_file-requires c = end-within c.args.entries.now c.args.course.now c.requires.is

pub put_file-requires : goal.put_file-requires
put_file-requires c = end-within c.args.entries.now c.args.course.now c.requires.is

pub returns-in-Open : goal.returns-in-Open
returns-in-Open c m same = opened-ok m c.args.entries.now c.args.course.now c.requires.is c.requires.done _ c.in-Open.is c.opened_file.result (c.opened_file.ensures m same)

pub returns-in-Put : goal.returns-in-Put
returns-in-Put c m same = put-ok m c.args.entries.now c.args.course.now c.requires.is c.requires.done _ _ c.in-Put.is c.put_file.result c.put_file.ensures

pub returns-in_default : goal.returns-in_default
returns-in_default c m same = other-none m c.args.entries.now c.args.course.now c.requires.is (λ slot is. c.in_default.not-Open slot is) (λ offset count is. c.in_default.not-Put offset count is)
