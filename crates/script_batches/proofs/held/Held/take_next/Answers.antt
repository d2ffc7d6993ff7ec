use Rattle.std.proofs.Common.{Bool, subst}
use Rattle.script_batches.specs.Taking.{Fills}
use Rattle.script_batches.proofs.Pieces.{goes-piece, piece-kept}
use Rattle.script_batches.proofs.held.Held.take_next.Goals as goal

pub returns-in-Ok-take_piece-clause-goes : goal.returns-in-Ok-take_piece-clause-goes
returns-in-Ok-take_piece-clause-goes g c =
    goes-piece (g.S.Source.left c.args.source.now) (g.S.Source.left c.fill.new.source) c.args.self.now c.fill.new.self c.take_piece.new.self c.args.line.now.items c.take_piece.new.line.items c.in-Ok-take_piece.ends
    (subst (λ (any : Bool). Fills (g.S.Source.left c.args.source.now) (g.S.Source.left c.fill.new.source) c.args.self.now.bytes c.fill.new.self.bytes any) c.if-any.true c.in-Ok.ensures.filled)
    c.in-Ok-take_piece.ensures.taken

pub returns-in-Ok-take_piece-clause-kept : goal.returns-in-Ok-take_piece-clause-kept
returns-in-Ok-take_piece-clause-kept g c =
    piece-kept c.fill.new.self.bytes c.take_piece.new.self.bytes c.args.line.now.items c.take_piece.new.line.items c.in-Ok-take_piece.ends c.in-Ok-take_piece.ensures.taken
