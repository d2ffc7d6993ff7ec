-- The piece, cut at the edges of the operation.
use Rattle.std.proofs.Common.{sym, subst, ℕ}
use Rattle.trace_claims.specs.Pieces.{IsOwnPiece}
use Rattle.trace_claims.proofs.Cutting.{own-piece}
use Rattle.trace_claims.proofs.pending.own_piece.Goals as goal

pub returns : goal.returns
returns c =
    subst (λ (e : ℕ). IsOwnPiece c.args.digest.now.operations.items c.args.digest.now.foreign.items c.args.written.now.course.work c.args.from c.args.most e) (sym c.nearer_of_work.ensures)
    (own-piece c.args.digest.now.operations.items c.args.digest.now.foreign.items c.args.written.now.course.work c.args.from c.args.most c.next_piece-end.result c.next_piece-end.ensures)
