-- One entry more.
use Rattle.std.proofs.Common.{ℕ, List, ◌≡◌, Some, slice_get, length, refl, sym, subst, arith}
use Rattle.std.proofs.lemmas.Grind.{common_steps}
use Rattle.std.proofs.lemmas.Option.{slice_get_read}
use Rattle.world_model.specs.declared.entry.Entry.{Entry}
use Rattle.trace_claims.specs.declared.touched.Foreign as changed
use Rattle.trace_claims.specs.Changes.{ChangesUpTo}
use Rattle.trace_claims.proofs.Collecting.{changes-none, changes-more}
use Rattle.trace_claims.proofs.changes.collect.Goals as goal

pub loop-place-init : goal.loop-place-init
loop-place-init c = record { within = omega arith; changes = subst (λ (l : List changed.Foreign). ChangesUpTo c.args.trace.now 0 l) (sym c.new-all.ensures.items) (changes-none c.args.trace.now) }

pub loop-place-preserved : goal.loop-place-preserved
loop-place-preserved c =
    let at : slice_get c.args.entries.now c.loop-place.place ≡ Some c.index-entries-place.result = slice_get_read c.args.entries.now (length c.args.entries.now) c.loop-place.place c.index-entries-place.result refl c.loop-place-test.true c.index-entries-place.is in
    record {
      within = grind (arith, common_steps);
      changes = changes-more c.args.trace.now c.loop-place.place c.index-entries-place.result c.loop-place.all.items _ (subst (λ (l : List Entry). slice_get l c.loop-place.place ≡ Some c.index-entries-place.result) c.requires at) c.in_ok-add_changes.ensures c.loop-place.invariant.changes;
    }

pub returns : goal.returns
returns c = subst (λ (k : ℕ). ChangesUpTo c.args.trace.now k c.loop-place.all.items) (let is : c.loop-place.place ≡ length c.args.entries.now = omega (arith, c.loop-place.invariant.within, c.loop-place-test.false) in is) c.loop-place.invariant.changes
