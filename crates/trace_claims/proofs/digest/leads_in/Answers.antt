-- Of an operation that begins.
use Rattle.trace_claims.proofs.Digesting.{leads-began}
use Rattle.trace_claims.proofs.digest.leads_in.Goals as goal

pub returns-in-Began : goal.returns-in-Began
returns-in-Began c origin h heard roots = leads-began (λ v. v.items) origin h c.args.entry.now c.in-Began.lane c.in-Began.line c.in-Began.op _ c.in-Began.is (c.leads_by.ensures origin h heard roots)

pub returns-in_default : goal.returns-in_default
returns-in_default c origin h heard roots = λ lane line offset path bytes is. absurd (c.in_default.not-Began lane line _ is)
