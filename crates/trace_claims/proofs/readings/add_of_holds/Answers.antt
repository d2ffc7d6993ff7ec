-- One hold more.
use Rattle.std.proofs.Common.{ℕ, List, ◌+◌, ◌≡◌, Some, slice_get, length, refl, sym, subst, arith}
use Rattle.std.proofs.lemmas.Grind.{common_steps}
use Rattle.std.proofs.lemmas.Option.{slice_get_read}
use Rattle.trace_claims.specs.declared.readings.Reading.{Reading}
use Rattle.trace_claims.specs.Readings.{AddsOfHolds}
use Rattle.trace_claims.proofs.Gathering.{holds-none, holds-more}
use Rattle.trace_claims.proofs.readings.add_of_holds.Goals as goal

pub loop-at-init : goal.loop-at-init
loop-at-init c = record { within = omega arith; adds = holds-none c.args.trace.now c.args.course.now c.args.holds.now c.args.all.now.items }

pub loop-at-preserved : goal.loop-at-preserved
loop-at-preserved c =
    let at : slice_get c.args.holds.now c.loop-at.at ≡ Some c.index-holds-at.result = slice_get_read c.args.holds.now (length c.args.holds.now) c.loop-at.at c.index-holds-at.result refl c.loop-at-test.true c.index-holds-at.is in
    record {
      within = grind (arith, common_steps);
      adds = subst (λ (l : List Reading). AddsOfHolds c.args.trace.now c.args.course.now c.args.holds.now (c.loop-at.at + 1) c.args.all.now.items l) (sym c.in_ok-add_reading.ensures)
          (holds-more c.args.trace.now c.args.course.now c.args.holds.now c.loop-at.at c.index-holds-at.result c.in_ok-reading.reading c.args.all.now.items c.loop-at.all.items at c.in_ok-reading.ensures c.loop-at.invariant.adds);
    }

pub returns : goal.returns
returns c = subst (λ (k : ℕ). AddsOfHolds c.args.trace.now c.args.course.now c.args.holds.now k c.args.all.now.items c.loop-at.all.items) (let is : c.loop-at.at ≡ length c.args.holds.now = omega (arith, c.loop-at.invariant.within, c.loop-at-test.false) in is) c.loop-at.invariant.adds
