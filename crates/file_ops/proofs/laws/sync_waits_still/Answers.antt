use Rattle.file_ops.proofs.Stills.{sync-still}
use Rattle.file_ops.proofs.laws.sync_waits_still.Goals as goal

pub returns : goal.returns
returns c = sync-still
