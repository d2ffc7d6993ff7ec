use Rattle.core_session.proofs.calls.WritesSome.{writes-some}
use Rattle.core_session.proofs.writes_carry_bytes.Goals as goal

pub returns : goal.returns
returns c = writes-some
