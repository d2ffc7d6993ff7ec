use Rattle.core_session.proofs.settled.Evident.{settled-evident}
use Rattle.core_session.proofs.settled_bytes_are_evident.Goals as goal

pub returns : goal.returns
returns c = settled-evident
