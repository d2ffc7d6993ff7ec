-- One moment more.
use Rattle.std.proofs.Common.{arith, sym, subst, ℕ, List, ◌≡◌, ◌+◌}
use Rattle.trace_claims.specs.Objects.{HasWindow}
use Rattle.trace_claims.proofs.Windows.{window-one, window-more}
use Rattle.trace_claims.proofs.objects.window.Goals as goal

pub loop-at-init : goal.loop-at-init
loop-at-init c = record {
  low = omega arith;
  high = λ le. le;
  has = subst (λ (l : List ℕ). HasWindow c.args.trace.now c.args.file.now c.args.from c.args.from l) (sym c.in_ok-moments.ensures) (window-one c.args.trace.now c.args.file.now c.args.from c.version_at.result c.version_at.ensures);
}

pub loop-at-preserved : goal.loop-at-preserved
loop-at-preserved c = record {
  low = omega (arith, c.loop-at.invariant.low);
  high = λ le. omega (arith, c.loop-at-test.true);
  has = subst (λ (l : List ℕ). HasWindow c.args.trace.now c.args.file.now c.args.from (c.loop-at.at + 1) l) (sym c.in_ok-add_place.ensures)
      (window-more c.args.trace.now c.args.file.now c.args.from c.loop-at.at c.loop-at.moments.items c.is_named_at.result c.loop-at.invariant.low c.is_named_at.ensures c.loop-at.invariant.has);
}

pub returns : goal.returns
returns c le = subst (λ (k : ℕ). HasWindow c.args.trace.now c.args.file.now c.args.from k c.loop-at.moments.items) (let high = c.loop-at.invariant.high le in let is : c.loop-at.at ≡ c.args.to = omega (arith, high, c.loop-at-test.false) in is) c.loop-at.invariant.has
