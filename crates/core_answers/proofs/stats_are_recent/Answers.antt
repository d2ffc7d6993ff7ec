use Rattle.core_answers.proofs.bonds.StatsShown.{stats-recent}
use Rattle.core_answers.proofs.stats_are_recent.Goals as goal

pub returns : goal.returns
returns c = stats-recent
