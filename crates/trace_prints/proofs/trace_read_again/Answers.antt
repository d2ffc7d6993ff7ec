-- Line by line.
use Rattle.trace_prints.proofs.Whole.{reads-printed, spelled-all}
use Rattle.trace_prints.proofs.trace_read_again.Goals as goal

pub returns-clause-again : goal.returns-clause-again
returns-clause-again c = λ ok text is. reads-printed c.args.trace.now text ok is

pub returns-clause-spelled : goal.returns-clause-spelled
returns-clause-spelled c = λ ok. spelled-all c.args.trace.now ok
