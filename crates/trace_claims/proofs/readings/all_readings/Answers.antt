-- One operation more.
use Rattle.std.proofs.Common.{ℕ, List, ◌≡◌, Some, slice_get, length, refl, sym, subst, arith}
use Rattle.std.proofs.lemmas.Grind.{common_steps}
use Rattle.std.proofs.lemmas.Option.{slice_get_read}
use Rattle.trace_claims.specs.declared.readings.Reading.{Reading}
use Rattle.trace_claims.specs.Readings.{ReadingsOf}
use Rattle.trace_claims.proofs.Gathering.{of-none, of-more}
use Rattle.trace_claims.proofs.readings.all_readings.Goals as goal

pub loop-at-init : goal.loop-at-init
loop-at-init c = record { within = omega arith; of = subst (λ (l : List Reading). ReadingsOf c.args.trace.now c.args.operations.now 0 l) (sym c.new-all.ensures.items) (of-none c.args.trace.now c.args.operations.now) }

pub loop-at-preserved : goal.loop-at-preserved
loop-at-preserved c =
    let at : slice_get c.args.operations.now c.loop-at.at ≡ Some c.index-operations-at.result = slice_get_read c.args.operations.now (length c.args.operations.now) c.loop-at.at c.index-operations-at.result refl c.loop-at-test.true c.index-operations-at.is in
    record {
      within = grind (arith, common_steps);
      of = of-more c.args.trace.now c.args.operations.now c.loop-at.at c.index-operations-at.result c.loop-at.all.items _ at c.in_ok-add_readings.ensures c.loop-at.invariant.of;
    }

pub returns : goal.returns
returns c = subst (λ (k : ℕ). ReadingsOf c.args.trace.now c.args.operations.now k c.loop-at.all.items) (let is : c.loop-at.at ≡ length c.args.operations.now = omega (arith, c.loop-at.invariant.within, c.loop-at-test.false) in is) c.loop-at.invariant.of
