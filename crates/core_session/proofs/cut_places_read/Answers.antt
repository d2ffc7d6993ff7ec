use Rattle.core_session.proofs.own.ReadCuts.{cuts-read}
use Rattle.core_session.proofs.cut_places_read.Goals as goal

pub returns : goal.returns
returns c = cuts-read
