use Rattle.core_session.proofs.settled.Synced.{synced-stay}
use Rattle.core_session.proofs.synced_bytes_stay.Goals as goal

pub returns : goal.returns
returns c = synced-stay
