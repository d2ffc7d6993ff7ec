use Rattle.std.proofs.Common.{refl}
use Rattle.file_ops.proofs.Waits.{read-still}
use Rattle.file_ops.proofs.laws.read_waits_still.Goals as goal

pub returns : goal.returns
returns c = λ machine pages back next new later r waits. read-still machine.reading machine pages back next new later refl r waits
