use Rattle.std.proofs.Common.{Some, None}
use Rattle.trace_text.proofs.Making.{name-made}
use Rattle.trace_text.proofs.words.as_name.Goals as goal

pub returns-in-Some : goal.returns-in-Some
returns-in-Some c = name-made (Some c.in-Some.name) c.args.bytes.now c.in-Some.ensures

pub returns-in-None : goal.returns-in-None
returns-in-None c = name-made None c.args.bytes.now c.in-None.ensures
