use Rattle.core_answers.proofs.bonds.Executions.{stats-true}
use Rattle.core_answers.proofs.stats_are_true.Goals as goal

pub returns : goal.returns
returns c = stats-true
