-- One more.
use Rattle.std.proofs.Common.{ℕ, ◌+◌, ◌≡◌, Some, slice_get, length, refl, sym, subst, arith}
use Rattle.std.proofs.lemmas.Grind.{common_steps}
use Rattle.std.proofs.lemmas.Option.{slice_get_read}
use Rattle.trace_claims.specs.Pieces.{IsPieceOfWorks}
use Rattle.trace_claims.proofs.Cutting.{works-none, works-more}
use Rattle.trace_claims.proofs.pieces.end_by_works.Goals as goal

pub loop-at-init : goal.loop-at-init
loop-at-init c = record { within = omega arith; known = works-none c.args.operations.now c.args.from c.args.most c.requires }

pub loop-at-preserved : goal.loop-at-preserved
loop-at-preserved c =
    let at : slice_get c.args.operations.now c.loop-at.at ≡ Some c.index-operations-at.result = slice_get_read c.args.operations.now (length c.args.operations.now) c.loop-at.at c.index-operations-at.result refl c.loop-at-test.true c.index-operations-at.is in
    record {
      within = grind (arith, common_steps);
      known = subst (λ (e : ℕ). IsPieceOfWorks c.args.operations.now (c.loop-at.at + 1) c.args.from c.args.most e) (sym c.nearer_of_work-end.ensures)
          (works-more c.args.operations.now c.loop-at.at c.args.from c.args.most c.loop-at.end c.index-operations-at.result at c.loop-at.invariant.known);
    }

pub returns : goal.returns
returns c = subst (λ (k : ℕ). IsPieceOfWorks c.args.operations.now k c.args.from c.args.most c.loop-at.end) (let is : c.loop-at.at ≡ length c.args.operations.now = omega (arith, c.loop-at.invariant.within, c.loop-at-test.false) in is) c.loop-at.invariant.known
