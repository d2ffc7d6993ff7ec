-- The one that is given, or those of the replies to MNT.
use Rattle.trace_claims.proofs.Rooting.{given-ok, mounted-ok}
use Rattle.trace_claims.proofs.paths.roots.Goals as goal

pub returns-in-Some : goal.returns-in-Some
returns-in-Some c origin is mounted has = given-ok (λ v. v.items) c.args.trace.now origin c.in-Some.root _ c.in-Some.is is c.given_root.ensures

pub returns-in-None : goal.returns-in-None
returns-in-None c origin is mounted has = mounted-ok (λ v. v.items) c.args.trace.now origin c.args.path.now c.args.heard.now _ c.in-None.is mounted has is c.mounted_roots.ensures
