use Rattle.core_counts.proofs.coarse.States.{states-reached}
use Rattle.core_counts.proofs.kept_states_are_coarse.Goals as goal

pub returns : goal.returns
returns c = states-reached
