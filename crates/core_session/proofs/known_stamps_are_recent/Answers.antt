use Rattle.core_session.proofs.current.SeenKnown.{seen-known}
use Rattle.core_session.proofs.known_stamps_are_recent.Goals as goal

pub returns : goal.returns
returns c = seen-known
