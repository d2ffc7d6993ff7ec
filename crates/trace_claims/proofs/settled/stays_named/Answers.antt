-- The file that is named.
use Rattle.trace_claims.proofs.Lasting.{named-decides}
use Rattle.trace_claims.proofs.settled.stays_named.Goals as goal

pub returns-in-Some : goal.returns-in-Some
returns-in-Some c = named-decides c.args.trace.now c.args.digest.now c.args.total c.args.written.now c.args.written.now.named _ c.stays.result c.in-Some.is c.stays.ensures
