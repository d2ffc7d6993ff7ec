use Rattle.std.proofs.Common.{sym, ap}
use Rattle.write_back.specs.Pieces.{FilePending}
use Rattle.write_back.proofs.ByFile.{on-is}
use Rattle.write_back.proofs.write_back.WriteBack.tidy.Goals as goal

pub give_up-requires : goal.give_up-requires
give_up-requires c = ap (λ (z : FilePending). z.pieces) (c.has_nothing.ensures.0 c.if-has_nothing.true)

pub returns-then-has_nothing-clause-bytes : goal.returns-then-has_nothing-clause-bytes
returns-then-has_nothing-clause-bytes c = on-is _ _ c.args.file.now _ _ c.give_up.ensures.bytes (sym (c.has_nothing.ensures.0 c.if-has_nothing.true))
