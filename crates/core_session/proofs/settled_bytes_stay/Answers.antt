use Rattle.core_session.proofs.settled.Synced.{settled-stay}
use Rattle.core_session.proofs.settled_bytes_stay.Goals as goal

pub returns : goal.returns
returns c = settled-stay
