-- One place more.
use Rattle.std.proofs.Common.{ℕ, ◌+◌, ◌≡◌, Option, sym, subst, arith}
use Rattle.trace_claims.specs.Clocks.{LatestClock, later}
use Rattle.trace_claims.proofs.Clocking.{latest-none, latest-more}
use Rattle.trace_claims.proofs.readings.latest_clock.Goals as goal

pub loop-at-init : goal.loop-at-init
loop-at-init c = record { within = omega arith; known = latest-none c.args.entries.now }

pub loop-at-preserved : goal.loop-at-preserved
loop-at-preserved c = record {
  within = omega (arith, c.loop-at-test.true);
  known = subst (λ (o : Option ℕ). LatestClock c.args.entries.now (c.loop-at.at + 1) o) (sym c.later-latest.ensures)
      (subst (λ (o : Option ℕ). LatestClock c.args.entries.now (c.loop-at.at + 1) (later c.loop-at.latest o)) (sym c.clock_at.ensures)
      (latest-more c.args.entries.now c.loop-at.at c.loop-at.latest c.loop-at.invariant.known));
}

pub returns : goal.returns
returns c = subst (λ (k : ℕ). LatestClock c.args.entries.now k c.loop-at.latest) (let is : c.loop-at.at ≡ c.args.before = omega (arith, c.loop-at.invariant.within, c.loop-at-test.false) in is) c.loop-at.invariant.known
