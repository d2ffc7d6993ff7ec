use Rattle.core_answers.proofs.bonds.StatsLed.{stats-led}
use Rattle.core_answers.proofs.stats_are_of_the_path.Goals as goal

pub returns : goal.returns
returns c = stats-led
