use Rattle.model_walks.proofs.SmallRun.{is_reached}
use Rattle.model_walks.proofs.small_run.Goals as goal

pub returns : goal.returns
returns c = λ mode dir attr r. is_reached mode dir attr r
