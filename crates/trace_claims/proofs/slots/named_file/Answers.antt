-- Of an operation that succeeded, or of none.
use Rattle.trace_claims.proofs.Namings.{finds-undone, not-done-fails}
use Rattle.trace_claims.proofs.slots.named_file.Goals as goal

pub done_file-requires-clause-is : goal.done_file-requires-clause-is
done_file-requires-clause-is c = c.requires

pub done_file-requires-clause-done : goal.done_file-requires-clause-done
done_file-requires-clause-done c = c.in-Done.is

pub returns-in_default : goal.returns-in_default
returns-in_default c m same = finds-undone m c.args.entries.now c.args.course.now c.requires (not-done-fails c.args.course.now.ending.outcome c.in_default.not-Done)
