use Rattle.core_session.proofs.own.Bare.{cuts-stay}
use Rattle.core_session.proofs.cut_places_stay.Goals as goal

pub returns : goal.returns
returns c = cuts-stay
