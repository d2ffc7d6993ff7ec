-- One name more.
use Rattle.std.proofs.Common.{ℕ, List, ◌+◌, ◌≡◌, Some, slice_get, length, refl, sym, subst, arith}
use Rattle.std.proofs.lemmas.Grind.{common_steps}
use Rattle.std.proofs.lemmas.Option.{slice_get_read}
use Rattle.trace_claims.specs.declared.touched.Foreign as changed
use Rattle.trace_claims.specs.Changes.{AddsNamed}
use Rattle.trace_claims.proofs.Collecting.{named-none, named-more}
use Rattle.trace_claims.proofs.changes.add_named.Goals as goal

pub loop-at-init : goal.loop-at-init
loop-at-init c = record { within = omega arith; adds = named-none c.args.listed.now c.args.place c.args.made.now c.args.all.now.items }

pub loop-at-preserved : goal.loop-at-preserved
loop-at-preserved c =
    let at : slice_get c.args.listed.now c.loop-at.at ≡ Some c.index-listed-at.result = slice_get_read c.args.listed.now (length c.args.listed.now) c.loop-at.at c.index-listed-at.result refl c.loop-at-test.true c.index-listed-at.is in
    record {
      within = grind (arith, common_steps);
      adds = subst (λ (l : List changed.Foreign). AddsNamed c.args.listed.now c.args.place c.args.made.now (c.loop-at.at + 1) c.args.all.now.items l) (sym c.in_ok-add_change.ensures)
          (named-more c.args.listed.now c.args.place c.args.made.now c.loop-at.at c.index-listed-at.result c.cut_of.result c.args.all.now.items c.loop-at.all.items at c.cut_of.ensures c.loop-at.invariant.adds);
    }

pub returns : goal.returns
returns c = subst (λ (k : ℕ). AddsNamed c.args.listed.now c.args.place c.args.made.now k c.args.all.now.items c.loop-at.all.items) (let is : c.loop-at.at ≡ length c.args.listed.now = omega (arith, c.loop-at.invariant.within, c.loop-at-test.false) in is) c.loop-at.invariant.adds
