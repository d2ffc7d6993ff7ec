-- One reply more.
use Rattle.std.proofs.Common.{ℕ, List, ◌≡◌, Some, slice_get, length, refl, sym, subst, arith}
use Rattle.std.proofs.lemmas.Grind.{common_steps}
use Rattle.std.proofs.lemmas.Option.{slice_get_read}
use Rattle.trace_claims.specs.declared.operations.Lead.{Lead}
use Rattle.trace_claims.specs.Paths.{RootsUpTo}
use Rattle.trace_claims.proofs.Pathing.{roots-none, roots-by}
use Rattle.trace_claims.proofs.paths.mounted_roots.Goals as goal

pub loop-at-init : goal.loop-at-init
loop-at-init c = record { within = omega arith; roots = subst (λ (l : List Lead). RootsUpTo c.args.path.now c.args.heard.now 0 l) (sym c.new-roots.ensures.items) (roots-none c.args.path.now c.args.heard.now) }

pub loop-at-preserved : goal.loop-at-preserved
loop-at-preserved c =
    let at : slice_get c.args.heard.now c.loop-at.at ≡ Some c.index-heard-at.result = slice_get_read c.args.heard.now (length c.args.heard.now) c.loop-at.at c.index-heard-at.result refl c.loop-at-test.true c.index-heard-at.is in
    record {
      within = grind (arith, common_steps);
      roots = roots-by c.args.path.now c.args.heard.now c.loop-at.at c.index-heard-at.result c.loop-at.roots.items _ at c.in_ok-add_root.ensures c.loop-at.invariant.roots;
    }

pub returns : goal.returns
returns c = subst (λ (k : ℕ). RootsUpTo c.args.path.now c.args.heard.now k c.loop-at.roots.items) (let is : c.loop-at.at ≡ length c.args.heard.now = omega (arith, c.loop-at.invariant.within, c.loop-at-test.false) in is) c.loop-at.invariant.roots
