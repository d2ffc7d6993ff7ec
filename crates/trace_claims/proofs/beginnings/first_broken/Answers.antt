-- By the digest.
use Rattle.trace_claims.specs.Modes.{modes_of}
use Rattle.trace_claims.proofs.beginnings.first_broken.Goals as goal

pub returns : goal.returns
returns c origin is = c.first_of.ensures (modes_of c.args.trace.now) origin (c.in_ok-digest.ensures origin is)
