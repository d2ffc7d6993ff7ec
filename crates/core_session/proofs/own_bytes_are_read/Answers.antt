use Rattle.core_session.proofs.kept.OwnShows.{own-bytes-read}
use Rattle.core_session.proofs.own_bytes_are_read.Goals as goal

pub returns : goal.returns
returns c = own-bytes-read
