-- By the operations, then by the changes of other clients.
use Rattle.trace_claims.proofs.Cutting.{piece-of-both}
use Rattle.trace_claims.proofs.pieces.piece_end.Goals as goal

pub returns : goal.returns
returns c = piece-of-both c.args.operations.now c.args.foreign.now c.args.from c.args.most c.end_by_works-end.result c.end_by_reaches.result c.end_by_works-end.ensures c.end_by_reaches.ensures
