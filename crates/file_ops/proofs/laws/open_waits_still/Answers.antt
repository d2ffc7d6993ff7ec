use Rattle.std.proofs.Common.{refl}
use Rattle.file_ops.specs.Opening.{go_next}
use Rattle.file_ops.specs.OpenFile.{goes_as, gone}
use Rattle.file_ops.proofs.Waits.{open-still}
use Rattle.file_ops.proofs.laws.open_waits_still.Goals as goal

pub returns : goal.returns
returns c = λ machine turn waits. open-still machine turn (goes_as (go_next machine.opening turn)) (gone machine turn) refl refl waits
