-- One operation more.
use Rattle.std.proofs.Common.{ℕ, List, ◌≡◌, Some, slice_get, length, refl, sym, subst, arith}
use Rattle.std.proofs.lemmas.Grind.{common_steps}
use Rattle.std.proofs.lemmas.Option.{slice_get_read}
use Rattle.trace_claims.specs.declared.touched.Left as lefts
use Rattle.trace_claims.specs.Lefts.{LeftsUpTo}
use Rattle.trace_claims.proofs.Leavings.{lefts-none, lefts-more}
use Rattle.trace_claims.proofs.slots.all_left.Goals as goal

pub loop-at-init : goal.loop-at-init
loop-at-init c = record { within = omega arith; lefts = λ m h named count. subst (λ (l : List lefts.Left). LeftsUpTo m h c.args.operations.now c.args.came.now 0 l) (sym c.new-all.ensures.items) (lefts-none m h c.args.operations.now c.args.came.now) }

pub loop-at-preserved : goal.loop-at-preserved
loop-at-preserved c =
    let at : slice_get c.args.operations.now c.loop-at.at ≡ Some c.index-operations-at.result = slice_get_read c.args.operations.now (length c.args.operations.now) c.loop-at.at c.index-operations-at.result refl c.loop-at-test.true c.index-operations-at.is in
    record {
      within = grind (arith, common_steps);
      lefts = λ m h named count. lefts-more m h c.args.operations.now c.args.came.now c.loop-at.at c.index-operations-at.result c.loop-at.all.items _ at (c.in_ok-add_left.ensures m h named count) (c.loop-at.invariant.lefts m h named count);
    }

pub returns : goal.returns
returns c m h named count = subst (λ (k : ℕ). LeftsUpTo m h c.args.operations.now c.args.came.now k c.loop-at.all.items) (let is : c.loop-at.at ≡ length c.args.operations.now = omega (arith, c.loop-at.invariant.within, c.loop-at-test.false) in is) (c.loop-at.invariant.lefts m h named count)
