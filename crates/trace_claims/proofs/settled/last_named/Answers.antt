-- The file that is named.
use Rattle.trace_claims.proofs.Lasting.{lastnamed-decides}
use Rattle.trace_claims.proofs.settled.last_named.Goals as goal

pub returns-in-Some : goal.returns-in-Some
returns-in-Some c = lastnamed-decides c.args.trace.now c.args.digest.now c.args.entry c.args.written.now c.args.written.now.named _ c.stays_last.result c.in-Some.is c.stays_last.ensures
