-- One more, which stays or not.
use Rattle.std.proofs.Common.{ℕ, ◌≡◌, Some, slice_get, length, refl, sym, subst, arith, true≢false, ◌∙◌}
use Rattle.std.proofs.lemmas.Grind.{common_steps}
use Rattle.std.proofs.lemmas.Option.{slice_get_read}
use Rattle.trace_claims.specs.Staying.{AllLast}
use Rattle.trace_claims.proofs.Lasting.{lasts-none, lasts-more}
use Rattle.trace_claims.proofs.settled.all_last.Goals as goal

pub loop-at-init : goal.loop-at-init
loop-at-init c = record { within = omega arith; known = lasts-none c.args.trace.now c.args.digest.now c.args.entry c.args.operations.now }

pub loop-at-preserved : goal.loop-at-preserved
loop-at-preserved c =
    let at : slice_get c.args.operations.now c.loop-at.at ≡ Some c.index-operations-at.result = slice_get_read c.args.operations.now (length c.args.operations.now) c.loop-at.at c.index-operations-at.result refl c.loop-at-test.true c.index-operations-at.is in
    record {
      within = grind (arith, common_steps);
      known = lasts-more c.args.trace.now c.args.digest.now c.args.entry c.args.operations.now c.loop-at.at c.index-operations-at.result at c.loop-at.invariant.known (c.last_everywhere.ensures.0 c.if-not-last_everywhere.false);
    }

pub returns-then-not-last_everywhere : goal.returns-then-not-last_everywhere
returns-then-not-last_everywhere c =
    let at : slice_get c.args.operations.now c.loop-at.at ≡ Some c.index-operations-at.result = slice_get_read c.args.operations.now (length c.args.operations.now) c.loop-at.at c.index-operations-at.result refl c.loop-at-test.true c.index-operations-at.is in
    (λ t. absurd (true≢false (sym t)), λ all. absurd (true≢false (sym (c.last_everywhere.ensures.1 (all c.loop-at.at c.index-operations-at.result at c.loop-at-test.true)) ∙ c.if-not-last_everywhere.true)))

pub returns : goal.returns
returns c = (λ t. subst (λ (k : ℕ). AllLast c.args.trace.now c.args.digest.now c.args.entry c.args.operations.now k) (let is : c.loop-at.at ≡ length c.args.operations.now = omega (arith, c.loop-at.invariant.within, c.loop-at-test.false) in is) c.loop-at.invariant.known, λ all. refl)
