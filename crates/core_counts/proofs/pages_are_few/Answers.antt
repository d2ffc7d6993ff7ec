use Rattle.core_counts.proofs.counts.listed.Counted.{pages-few}
use Rattle.core_counts.proofs.pages_are_few.Goals as goal

pub returns : goal.returns
returns c = pages-few
