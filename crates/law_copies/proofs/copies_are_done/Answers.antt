use Rattle.law_copies.proofs.Doing.{asked-are-copied}
use Rattle.law_copies.proofs.copies_are_done.Goals as goal

pub returns : goal.returns
returns c = asked-are-copied
