use Rattle.core_session.proofs.current.SteadyBytes.{stable-read}
use Rattle.core_session.proofs.stable_bytes_are_read.Goals as goal

pub returns : goal.returns
returns c = stable-read
