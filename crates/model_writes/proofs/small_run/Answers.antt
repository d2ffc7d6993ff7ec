use Rattle.model_writes.proofs.SmallRun.{is_reached}
use Rattle.model_writes.proofs.small_run.Goals as goal

pub returns : goal.returns
returns c = is_reached
