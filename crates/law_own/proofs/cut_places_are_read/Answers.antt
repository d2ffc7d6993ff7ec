use Rattle.law_own.proofs.CutOff.{cuts-are-read}
use Rattle.law_own.proofs.cut_places_are_read.Goals as goal

pub returns : goal.returns
returns c = cuts-are-read
