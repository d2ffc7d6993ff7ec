-- One more, which stays or not.
use Rattle.std.proofs.Common.{ℕ, ◌≡◌, Some, slice_get, length, refl, sym, subst, arith, true≢false, ◌∙◌}
use Rattle.std.proofs.lemmas.Grind.{common_steps}
use Rattle.std.proofs.lemmas.Option.{slice_get_read}
use Rattle.trace_claims.specs.Staying.{StayHeld}
use Rattle.trace_claims.proofs.Lasting.{held-none, held-more}
use Rattle.trace_claims.proofs.settled.stays_held.Goals as goal

pub loop-at-init : goal.loop-at-init
loop-at-init c = record { within = omega arith; known = held-none c.args.trace.now c.args.digest.now c.args.total c.args.written.now c.args.holds.now }

pub loop-at-preserved : goal.loop-at-preserved
loop-at-preserved c =
    let at : slice_get c.args.holds.now c.loop-at.at ≡ Some c.index-holds-at.result = slice_get_read c.args.holds.now (length c.args.holds.now) c.loop-at.at c.index-holds-at.result refl c.loop-at-test.true c.index-holds-at.is in
    record {
      within = grind (arith, common_steps);
      known = held-more c.args.trace.now c.args.digest.now c.args.total c.args.written.now c.args.holds.now c.loop-at.at c.index-holds-at.result at c.loop-at.invariant.known (c.stays_hold.ensures.0 c.if-not-stays_hold.false);
    }

pub returns-then-not-stays_hold : goal.returns-then-not-stays_hold
returns-then-not-stays_hold c =
    let at : slice_get c.args.holds.now c.loop-at.at ≡ Some c.index-holds-at.result = slice_get_read c.args.holds.now (length c.args.holds.now) c.loop-at.at c.index-holds-at.result refl c.loop-at-test.true c.index-holds-at.is in
    (λ t. absurd (true≢false (sym t)), λ all. absurd (true≢false (sym (c.stays_hold.ensures.1 (all c.loop-at.at c.index-holds-at.result at c.loop-at-test.true)) ∙ c.if-not-stays_hold.true)))

pub returns : goal.returns
returns c = (λ t. subst (λ (k : ℕ). StayHeld c.args.trace.now c.args.digest.now c.args.total c.args.written.now c.args.holds.now k) (let is : c.loop-at.at ≡ length c.args.holds.now = omega (arith, c.loop-at.invariant.within, c.loop-at-test.false) in is) c.loop-at.invariant.known, λ all. refl)
