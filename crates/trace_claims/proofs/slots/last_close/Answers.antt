-- One operation more.
use Rattle.std.proofs.Common.{ℕ, ◌+◌, ◌≡◌, Option, Some, slice_get, length, refl, sym, subst, arith}
use Rattle.std.proofs.lemmas.Grind.{common_steps}
use Rattle.std.proofs.lemmas.Option.{slice_get_read}
use Rattle.trace_claims.specs.Slotted.{LastClose, later}
use Rattle.trace_claims.proofs.Slotting.{last-more}
use Rattle.trace_claims.proofs.slots.last_close.Goals as goal

pub loop-at-preserved : goal.loop-at-preserved
loop-at-preserved c =
    let at : slice_get c.args.all.now c.loop-at.at ≡ Some c.index-all-at.result = slice_get_read c.args.all.now (length c.args.all.now) c.loop-at.at c.index-all-at.result refl c.loop-at-test.true c.index-all-at.is in
    record {
      within = grind (arith, common_steps);
      known = subst (λ (o : Option ℕ). LastClose c.args.all.now c.args.lane c.args.slot c.args.place (c.loop-at.at + 1) o) (sym c.later-last.ensures)
          (subst (λ (o : Option ℕ). LastClose c.args.all.now c.args.lane c.args.slot c.args.place (c.loop-at.at + 1) (later c.loop-at.last o)) (sym c.close_at.ensures)
          (last-more c.args.all.now c.args.lane c.args.slot c.args.place c.loop-at.at c.index-all-at.result c.loop-at.last at c.loop-at.invariant.known));
    }

pub returns : goal.returns
returns c = subst (λ (k : ℕ). LastClose c.args.all.now c.args.lane c.args.slot c.args.place k c.loop-at.last) (let is : c.loop-at.at ≡ length c.args.all.now = omega (arith, c.loop-at.invariant.within, c.loop-at-test.false) in is) c.loop-at.invariant.known
