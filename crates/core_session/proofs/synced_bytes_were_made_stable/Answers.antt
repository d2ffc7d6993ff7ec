use Rattle.core_session.proofs.synced_bytes_were_made_stable.Goals as goal
use Rattle.core_session.proofs.syncs.Watched.{synced-bytes}

pub returns : goal.returns
returns c = synced-bytes
