-- What the record asks for.
use Rattle.std.proofs.Common.{sym, subst, Option, List, ℕ}
use Rattle.trace_claims.specs.Mounting.{FindsPath}
use Rattle.trace_claims.proofs.Rooting.{finds-path}
use Rattle.trace_claims.proofs.paths.path_asked.Goals as goal

pub returns : goal.returns
returns c = subst (λ (o : Option (List ℕ)). FindsPath c.args.bytes.now o) (sym c.mount_in.ensures) (finds-path c.args.bytes.now c.in_ok-asked.asked c.in_ok-asked.ensures.sound c.in_ok-asked.ensures.served)
