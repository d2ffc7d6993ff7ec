-- One reply more.
use Rattle.std.proofs.Common.{ℕ, List, ◌≡◌, Some, slice_get, length, refl, sym, subst, arith}
use Rattle.std.proofs.lemmas.Grind.{common_steps}
use Rattle.std.proofs.lemmas.Option.{slice_get_read}
use Rattle.trace_claims.specs.declared.operations.Lead.{Lead}
use Rattle.trace_claims.specs.Paths.{NextUpTo}
use Rattle.trace_claims.proofs.Pathing.{next-none, next-by}
use Rattle.trace_claims.proofs.paths.next.Goals as goal

pub loop-at-init : goal.loop-at-init
loop-at-init c = record { within = omega arith; next = subst (λ (l : List Lead). NextUpTo c.args.list.now c.args.name.now c.args.heard.now 0 l) (sym c.new-later.ensures.items) (next-none c.args.list.now c.args.name.now c.args.heard.now) }

pub loop-at-preserved : goal.loop-at-preserved
loop-at-preserved c =
    let at : slice_get c.args.heard.now c.loop-at.at ≡ Some c.index-heard-at.result = slice_get_read c.args.heard.now (length c.args.heard.now) c.loop-at.at c.index-heard-at.result refl c.loop-at-test.true c.index-heard-at.is in
    record {
      within = grind (arith, common_steps);
      next = next-by c.args.list.now c.args.name.now c.args.heard.now c.loop-at.at c.index-heard-at.result c.loop-at.later.items _ at c.in_ok-add_found.ensures c.loop-at.invariant.next;
    }

pub returns : goal.returns
returns c = subst (λ (k : ℕ). NextUpTo c.args.list.now c.args.name.now c.args.heard.now k c.loop-at.later.items) (let is : c.loop-at.at ≡ length c.args.heard.now = omega (arith, c.loop-at.invariant.within, c.loop-at-test.false) in is) c.loop-at.invariant.next
