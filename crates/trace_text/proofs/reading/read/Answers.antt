-- No line is left.
use Rattle.std.proofs.Common.{rules}
use Rattle.trace_text.specs.Reading.{text_told}
use Rattle.trace_text.specs.Told.{told_by}
use Rattle.trace_text.proofs.ReadOn.{all-read, says-all}
use Rattle.trace_text.proofs.reading.read.Goals as goal

pub returns-clause-read : goal.returns-clause-read
returns-clause-read c = says-all c.finish.result (told_by c.loop-left.draft) (text_told c.args.text.now)
    (all-read c.loop-left.number (told_by c.loop-left.draft) c.loop-left.left.now (text_told c.args.text.now) (search rules) c.loop-left.invariant.read) c.finish.ensures.says
