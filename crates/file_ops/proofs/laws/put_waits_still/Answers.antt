use Rattle.std.proofs.Common.{refl}
use Rattle.file_ops.proofs.Waits.{put-still}
use Rattle.file_ops.proofs.laws.put_waits_still.Goals as goal

pub returns : goal.returns
returns c = λ wsize machine turn old next new after r waits. put-still machine.state wsize machine turn old next new after refl r waits
