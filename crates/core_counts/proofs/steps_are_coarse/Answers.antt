use Rattle.core_counts.proofs.coarse.Along.{core-coarse}
use Rattle.core_counts.proofs.steps_are_coarse.Goals as goal

pub returns : goal.returns
returns c = core-coarse
