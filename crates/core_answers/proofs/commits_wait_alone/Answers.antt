use Rattle.core_answers.proofs.writes.CommitsAlone.{commits-alone}
use Rattle.core_answers.proofs.commits_wait_alone.Goals as goal

pub returns : goal.returns
returns c = commits-alone
