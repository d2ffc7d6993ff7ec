use Rattle.law_pair.proofs.Seen.{settled-are-seen}
use Rattle.law_pair.proofs.settled_bytes_are_seen.Goals as goal

pub returns : goal.returns
returns c = settled-are-seen
