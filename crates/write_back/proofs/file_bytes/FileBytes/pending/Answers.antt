use Rattle.std.proofs.Common.{arith}
use Rattle.write_back.proofs.Limits.{most_is}
use Rattle.write_back.proofs.file_bytes.FileBytes.pending.Goals as goal

pub overflow_add-result : goal.overflow_add-result
overflow_add-result c = omega (arith, most_is, c.self.invariant.kept.sound.room, c.self.invariant.kept.flying, c.own.ensures)
