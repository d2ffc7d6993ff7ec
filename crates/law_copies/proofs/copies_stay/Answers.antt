use Rattle.law_copies.proofs.Lasting.{copies-stay}
use Rattle.law_copies.proofs.copies_stay.Goals as goal

pub returns : goal.returns
returns c = copies-stay
