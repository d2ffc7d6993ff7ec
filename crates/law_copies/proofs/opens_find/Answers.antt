use Rattle.law_copies.proofs.Finding.{rows-find}
use Rattle.law_copies.proofs.opens_find.Goals as goal

pub returns : goal.returns
returns c = rows-find
