-- One hold more.
use Rattle.std.proofs.Common.{ℕ, List, ◌+◌, ◌++◌, ◌≡◌, Some, slice_get, length, refl, sym, subst, arith, ◌∙◌}
use Rattle.std.specs.Prelude.{Decides}
use Rattle.std.proofs.lemmas.Grind.{common_steps}
use Rattle.std.proofs.lemmas.Option.{slice_get_read}
use Rattle.trace_claims.specs.declared.operations.Hold.{Hold}
use Rattle.trace_claims.specs.declared.touched.Left as lefts
use Rattle.trace_claims.specs.Leaving.{left_of, IsHeldAt}
use Rattle.trace_claims.specs.Lefts.{AddsLefts, left_unless}
use Rattle.trace_claims.proofs.Leavings.{adds-none, adds-more, same-hold}
use Rattle.trace_claims.proofs.slots.add_of_holds.Goals as goal

pub loop-at-init : goal.loop-at-init
loop-at-init c = record { within = omega arith; adds = λ m h named is below. adds-none m h c.args.operations.now c.args.came.now c.args.close.now c.args.holds.now c.args.all.now.items }

pub loop-at-preserved : goal.loop-at-preserved
loop-at-preserved c =
    let at : slice_get c.args.holds.now c.loop-at.at ≡ Some c.index-holds-at.result = slice_get_read c.args.holds.now (length c.args.holds.now) c.loop-at.at c.index-holds-at.result refl c.loop-at-test.true c.index-holds-at.is in
    let again : slice_get c.args.holds.now c.loop-at.at ≡ Some c.index-holds-at-in-loop-at.result = slice_get_read c.args.holds.now (length c.args.holds.now) c.loop-at.at c.index-holds-at-in-loop-at.result refl c.loop-at-test.true c.index-holds-at-in-loop-at.is in
    let same : c.index-holds-at.result ≡ c.index-holds-at-in-loop-at.result = same-hold c.index-holds-at.result c.index-holds-at-in-loop-at.result (sym at ∙ again) in
    record {
      within = grind (arith, common_steps);
      adds = λ m h named is below.
          subst (λ (l : List lefts.Left). AddsLefts m h c.args.operations.now c.args.came.now c.args.close.now c.args.holds.now (c.loop-at.at + 1) c.args.all.now.items l) (sym c.in_ok-add_if_left.ensures)
          (subst (λ (x : lefts.Left). AddsLefts m h c.args.operations.now c.args.came.now c.args.close.now c.args.holds.now (c.loop-at.at + 1) c.args.all.now.items (c.loop-at.all.items ++ left_unless c.in_ok-held.held x)) (sym c.left_of.ensures)
          (adds-more m h c.args.operations.now c.args.came.now c.args.close.now c.args.holds.now c.loop-at.at c.index-holds-at-in-loop-at.result c.in_ok-held.held c.args.all.now.items c.loop-at.all.items again
          (subst (λ (x : Hold). Decides c.in_ok-held.held (IsHeldAt m h (c.args.close.now.ending.end + 1) x.file)) same (subst (λ (n : ℕ). Decides c.in_ok-held.held (IsHeldAt m h n c.index-holds-at.result.file)) is (c.in_ok-held.ensures m h named below))) (c.loop-at.invariant.adds m h named is below)));
    }

pub returns : goal.returns
returns c m h named is below =
    subst (λ (k : ℕ). AddsLefts m h c.args.operations.now c.args.came.now c.args.close.now c.args.holds.now k c.args.all.now.items c.loop-at.all.items) (let e : c.loop-at.at ≡ length c.args.holds.now = omega (arith, c.loop-at.invariant.within, c.loop-at-test.false) in e) (c.loop-at.invariant.adds m h named is below)
