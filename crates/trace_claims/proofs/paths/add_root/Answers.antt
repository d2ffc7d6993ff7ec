-- A root, or none.
use Rattle.std.proofs.Common.{refl, sym, ◌∙◌}
use Rattle.trace_claims.specs.Paths.{root_by, rootless}
use Rattle.trace_claims.proofs.Rooting.{root-ok}
use Rattle.trace_claims.proofs.paths.add_root.Goals as goal

pub returns-in-Some : goal.returns-in-Some
returns-in-Some c = root-ok (root_by c.args.heard.now c.args.path.now) c.in-Some.root c.args.heard.now.after c.args.roots.now.items _ _ (sym c.root_by.ensures ∙ c.in-Some.is) c.add.ensures

pub returns-in-None : goal.returns-in-None
returns-in-None c = rootless (sym c.root_by.ensures ∙ c.in-None.is) refl
