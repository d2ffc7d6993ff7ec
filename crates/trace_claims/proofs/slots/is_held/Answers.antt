-- One operation more.
use Rattle.std.proofs.Common.{ℕ, ◌≡◌, Some, slice_get, length, refl, sym, subst, arith, true≢false}
use Rattle.std.proofs.lemmas.Grind.{common_steps}
use Rattle.std.proofs.lemmas.Option.{slice_get_read}
use Rattle.trace_claims.proofs.Leavings.{NoneHold, hold-none, hold-more, work-held, held-none}
use Rattle.trace_claims.proofs.slots.is_held.Goals as goal

pub loop-at-init : goal.loop-at-init
loop-at-init c = record { within = omega arith; none = λ m h named below. hold-none m h c.args.place c.args.all.now c.args.file.now }

pub loop-at-preserved : goal.loop-at-preserved
loop-at-preserved c =
    let at : slice_get c.args.all.now c.loop-at.at ≡ Some c.index-all-at.result = slice_get_read c.args.all.now (length c.args.all.now) c.loop-at.at c.index-all-at.result refl c.loop-at-test.true c.index-all-at.is in
    record {
      within = grind (arith, common_steps);
      none = λ m h named below. hold-more m h c.args.place c.args.all.now c.args.file.now c.loop-at.at c.index-all-at.result c.in_ok-holds_there.field-0 at (c.in_ok-holds_there.ensures m h named below) (grind (arith, common_steps)) (c.loop-at.invariant.none m h named below);
    }

pub returns-then-branch : goal.returns-then-branch
returns-then-branch c m h named below = (λ t. work-held m h c.args.place c.index-all-at.result.course.lane c.args.file.now c.index-all-at.result.course.work ((c.in_ok-holds_there.ensures m h named below).0 (grind (arith, common_steps))), λ held. refl)

pub returns : goal.returns
returns c m h named below = (
  λ t. absurd (true≢false (sym t)),
  λ held. absurd (held-none m h c.args.place c.args.all.now c.args.file.now named
      (subst (λ (k : ℕ). NoneHold m h c.args.place c.args.all.now c.args.file.now k) (let is : c.loop-at.at ≡ length c.args.all.now = omega (arith, c.loop-at.invariant.within, c.loop-at-test.false) in is) (c.loop-at.invariant.none m h named below)) held),
)
