use Rattle.core_session.proofs.current.SteadyBytes.{steady-read}
use Rattle.core_session.proofs.steady_bytes_are_read.Goals as goal

pub returns : goal.returns
returns c = steady-read
