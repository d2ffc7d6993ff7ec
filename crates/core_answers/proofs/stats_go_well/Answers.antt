use Rattle.core_answers.proofs.answers.StatStory.{stats-ok}
use Rattle.core_answers.proofs.stats_go_well.Goals as goal

pub returns : goal.returns
returns c = stats-ok
