-- One more.
use Rattle.std.proofs.Common.{ℕ, ◌+◌, ◌≡◌, Some, slice_get, length, refl, sym, subst, arith}
use Rattle.std.proofs.lemmas.Grind.{common_steps}
use Rattle.std.proofs.lemmas.Option.{slice_get_read}
use Rattle.trace_claims.specs.Pieces.{IsPieceOfReaches}
use Rattle.trace_claims.proofs.Cutting.{reaches-none, reaches-more}
use Rattle.trace_claims.proofs.pieces.end_by_reaches.Goals as goal

pub loop-at-init : goal.loop-at-init
loop-at-init c = record { within = omega arith; known = reaches-none c.args.foreign.now c.args.from c.args.most c.requires }

pub loop-at-preserved : goal.loop-at-preserved
loop-at-preserved c =
    let at : slice_get c.args.foreign.now c.loop-at.at ≡ Some c.index-foreign-at.result = slice_get_read c.args.foreign.now (length c.args.foreign.now) c.loop-at.at c.index-foreign-at.result refl c.loop-at-test.true c.index-foreign-at.is in
    record {
      within = grind (arith, common_steps);
      known = subst (λ (e : ℕ). IsPieceOfReaches c.args.foreign.now (c.loop-at.at + 1) c.args.from c.args.most e) (sym c.nearer_of_reach-end.ensures)
          (reaches-more c.args.foreign.now c.loop-at.at c.args.from c.args.most c.loop-at.end c.index-foreign-at.result at c.loop-at.invariant.known);
    }

pub returns : goal.returns
returns c = subst (λ (k : ℕ). IsPieceOfReaches c.args.foreign.now k c.args.from c.args.most c.loop-at.end) (let is : c.loop-at.at ≡ length c.args.foreign.now = omega (arith, c.loop-at.invariant.within, c.loop-at-test.false) in is) c.loop-at.invariant.known
