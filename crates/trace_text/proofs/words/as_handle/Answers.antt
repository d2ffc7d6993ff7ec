use Rattle.std.proofs.Common.{Some, None}
use Rattle.trace_text.proofs.Making.{handle-made}
use Rattle.trace_text.proofs.words.as_handle.Goals as goal

pub returns-in-Some : goal.returns-in-Some
returns-in-Some c = handle-made (Some c.in-Some.handle) c.args.bytes.now c.in-Some.ensures

pub returns-in-None : goal.returns-in-None
returns-in-None c = handle-made None c.args.bytes.now c.in-None.ensures
