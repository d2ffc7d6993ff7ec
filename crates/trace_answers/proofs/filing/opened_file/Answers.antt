-- The last call tells the file; without one there is none.
use Rattle.trace_answers.proofs.Files.{finds-none}
use Rattle.trace_answers.proofs.filing.opened_file.Goals as goal

pub found_by-requires : goal.found_by-requires
found_by-requires c = rw c.in-Some.is at c.in_ok-last.ensures

pub returns-in-None : goal.returns-in-None
returns-in-None c m same = finds-none m c.args.entries.now c.args.place (rw c.in-None.is at c.in_ok-last.ensures)
