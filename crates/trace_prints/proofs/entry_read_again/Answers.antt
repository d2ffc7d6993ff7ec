-- By the lemma on each kind of entry.
use Rattle.trace_prints.proofs.Entries.{reads-entry}
use Rattle.trace_prints.proofs.entry_read_again.Goals as goal

pub returns : goal.returns
returns c = λ told shape last e lt. reads-entry told shape c.args.entry.now last e lt
