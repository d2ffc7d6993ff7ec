-- One time more.
use Rattle.std.proofs.Common.{ℕ, ◌≡◌, Some, slice_get, length, refl, subst, arith}
use Rattle.std.proofs.lemmas.Grind.{common_steps}
use Rattle.std.proofs.lemmas.Option.{slice_get_read}
use Rattle.trace_claims.specs.Paths.{AddsObjects}
use Rattle.trace_claims.proofs.Pathing.{objects-none, objects-by}
use Rattle.trace_claims.proofs.paths.add_objects.Goals as goal

pub loop-at-init : goal.loop-at-init
loop-at-init c = record { within = omega arith; adds = objects-none c.args.list.now c.args.dir.now c.args.object c.args.since c.args.later.now.items }

pub loop-at-preserved : goal.loop-at-preserved
loop-at-preserved c =
    let at : slice_get c.args.list.now c.loop-at.at ≡ Some c.index-list-at.result = slice_get_read c.args.list.now (length c.args.list.now) c.loop-at.at c.index-list-at.result refl c.loop-at-test.true c.index-list-at.is in
    record {
      within = grind (arith, common_steps);
      adds = objects-by c.args.list.now c.args.dir.now c.args.object c.args.since c.loop-at.at c.index-list-at.result c.args.later.now.items c.loop-at.later.items _ at c.in_ok-add_object.ensures c.loop-at.invariant.adds;
    }

pub returns : goal.returns
returns c = subst (λ (k : ℕ). AddsObjects c.args.list.now c.args.dir.now c.args.object c.args.since k c.args.later.now.items c.loop-at.later.items) (let is : c.loop-at.at ≡ length c.args.list.now = omega (arith, c.loop-at.invariant.within, c.loop-at-test.false) in is) c.loop-at.invariant.adds
