-- Of a put the path leads there.
use Rattle.trace_claims.proofs.Digesting.{leads-put}
use Rattle.trace_claims.proofs.digest.leads_by.Goals as goal

pub returns-in-Put : goal.returns-in-Put
returns-in-Put c origin h heard roots = leads-put (λ v. v.items) origin h c.args.op.now c.in-Put.path c.in-Put.offset c.in-Put.bytes _ c.in-Put.is ((rw c.names.ensures at c.led_to.ensures) origin h heard roots)

pub returns-in_default : goal.returns-in_default
returns-in_default c origin h heard roots = λ path offset bytes is. absurd (c.in_default.not-Put path offset bytes is)
