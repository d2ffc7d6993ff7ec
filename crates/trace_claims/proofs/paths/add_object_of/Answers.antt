-- An object, or none.
use Rattle.std.proofs.Common.{refl}
use Rattle.trace_claims.specs.Paths.{nowhere}
use Rattle.trace_claims.proofs.Rooting.{object-of-ok}
use Rattle.trace_claims.proofs.paths.add_object_of.Goals as goal

pub returns-in-Some : goal.returns-in-Some
returns-in-Some c = object-of-ok c.args.list.now c.args.dir.now c.args.object c.in-Some.object c.args.since c.args.later.now.items _ _ c.in-Some.is c.add_objects.ensures

pub returns-in-None : goal.returns-in-None
returns-in-None c = nowhere c.in-None.is refl
