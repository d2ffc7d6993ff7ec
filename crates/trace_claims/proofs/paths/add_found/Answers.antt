-- A reply to LOOKUP of the name, or another.
use Rattle.std.proofs.Common.{sym, ◌∙◌}
use Rattle.trace_claims.proofs.Rooting.{found-ok, found-not}
use Rattle.trace_claims.proofs.paths.add_found.Goals as goal

pub returns-in-Some : goal.returns-in-Some
returns-in-Some c = found-ok c.args.list.now c.args.name.now c.args.heard.now c.in-Some.dir c.args.later.now.items _ _ (sym c.looks_up.ensures ∙ c.in-Some.is) (rw c.object_in.ensures at c.add_object_of.ensures)

pub returns-in-None : goal.returns-in-None
returns-in-None c = found-not c.args.list.now c.args.name.now c.args.heard.now c.args.later.now.items (sym c.looks_up.ensures ∙ c.in-None.is)
