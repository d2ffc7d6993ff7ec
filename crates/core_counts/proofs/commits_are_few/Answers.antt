use Rattle.core_counts.proofs.counts.rooms.Counted.{few-commits}
use Rattle.core_counts.proofs.commits_are_few.Goals as goal

pub returns : goal.returns
returns c = few-commits
