-- One operation more.
use Rattle.std.proofs.Common.{ℕ, ◌+◌, ◌≡◌, List, Some, slice_get, length, refl, sym, subst, arith}
use Rattle.std.proofs.lemmas.Grind.{common_steps}
use Rattle.std.proofs.lemmas.Option.{slice_get_read}
use Rattle.trace_claims.specs.declared.operations.Hold.{Hold}
use Rattle.trace_claims.specs.Slotted.{HoldsUpTo}
use Rattle.trace_claims.proofs.Slotting.{more-holds}
use Rattle.trace_claims.proofs.slots.held_at.Goals as goal

pub loop-at-preserved : goal.loop-at-preserved
loop-at-preserved c =
    let at : slice_get c.args.all.now c.loop-at.at ≡ Some c.index-all-at.result = slice_get_read c.args.all.now (length c.args.all.now) c.loop-at.at c.index-all-at.result refl c.loop-at-test.true c.index-all-at.is in
    record {
      within = grind (arith, common_steps);
      last = c.loop-at.invariant.last;
      has = subst (λ (l : List Hold). HoldsUpTo c.args.all.now c.args.lane c.args.slot c.args.place c.last_close-closed.result (c.loop-at.at + 1) l) (sym c.in_ok-add.ensures)
          (more-holds c.args.all.now c.args.lane c.args.slot c.args.place c.last_close-closed.result c.loop-at.at c.index-all-at.result c.loop-at.holds.items c.hold_by.result at c.hold_by.ensures c.loop-at.invariant.has);
    }

pub returns : goal.returns
returns c = record {
  closed = c.last_close-closed.result;
  last = c.last_close-closed.ensures;
  has = subst (λ (k : ℕ). HoldsUpTo c.args.all.now c.args.lane c.args.slot c.args.place c.last_close-closed.result k c.loop-at.holds.items) (let is : c.loop-at.at ≡ length c.args.all.now = omega (arith, c.loop-at.invariant.within, c.loop-at-test.false) in is) c.loop-at.invariant.has;
}
