use Rattle.std.proofs.Common.{refl}
use Rattle.file_ops.specs.TruncateFile.{resumed_next}
use Rattle.file_ops.proofs.Waits.{truncate-still}
use Rattle.file_ops.proofs.laws.truncate_waits_still.Goals as goal

pub returns : goal.returns
returns c = λ machine turn old waits. truncate-still machine.state machine turn old (resumed_next machine.state machine turn old) refl waits
