-- One moment earlier.
use Rattle.std.proofs.Common.{arith, refl, sym, ◌∙◌, subst, ℕ, ◌≡◌}
use Rattle.trace_claims.specs.Objects.{IsSame}
use Rattle.trace_claims.proofs.Windows.{same-before}
use Rattle.trace_claims.proofs.objects.version_at.Goals as goal

pub loop-at-init : goal.loop-at-init
loop-at-init c = record { within = omega arith; same = refl }

pub loop-at-preserved : goal.loop-at-preserved
loop-at-preserved c = record {
  within = omega (arith, c.loop-at.invariant.within);
  same = same-before c.args.trace.now c.args.file.now c.loop-at.at c.args.moment c.loop-at-test.true (sym c.is_named_at.ensures ∙ c.if-is_named_at.false) c.loop-at.invariant.same;
}

pub returns-then-is_named_at : goal.returns-then-is_named_at
returns-then-is_named_at c = (c.loop-at.invariant.within, c.loop-at.invariant.same)

pub returns : goal.returns
returns c = (omega arith, subst (λ (z : ℕ). IsSame c.args.trace.now c.args.file.now z c.args.moment) (let is : c.loop-at.at ≡ 0 = omega (arith, c.loop-at-test.false) in is) c.loop-at.invariant.same)
