-- Past another place, or a piece without pending bytes.
use Rattle.std.proofs.Common.{sym, ◌∙◌, arith, subst, ℕ}
use Rattle.trace_claims.specs.Pendings.{is_free}
use Rattle.trace_claims.specs.Places.{HoldsUntil}
use Rattle.trace_claims.proofs.Freeing.{free-past, free-piece, free-not}
use Rattle.trace_claims.proofs.pending.free_until.Goals as goal

pub returns-then-at-past : goal.returns-then-at-past
returns-then-at-past c =
    subst (λ (e : ℕ). HoldsUntil (is_free c.args.digest.now c.args.length c.args.written.now c.args.file.now c.args.moment c.args.past) c.args.at c.args.to e) (sym c.next_past.ensures)
    (free-past c.args.digest.now c.args.length c.args.written.now c.args.file.now c.args.moment c.args.past c.args.at c.args.to c.if-at-past.true c.requires)

pub returns-then-is_pending : goal.returns-then-is_pending
returns-then-is_pending c = free-not c.args.digest.now c.args.length c.args.written.now c.args.file.now c.args.moment c.args.past c.args.at (omega (arith, c.if-at-past.false)) (sym c.is_pending.ensures ∙ c.if-is_pending.true)

pub returns : goal.returns
returns c = free-piece c.args.digest.now c.args.length c.args.written.now c.args.file.now c.args.moment c.args.past c.args.at c.args.to c.own_piece.result c.own_piece.ensures (sym c.is_pending.ensures ∙ c.if-is_pending.false)
