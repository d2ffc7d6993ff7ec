use Rattle.core_session.proofs.settled.Given.{writes-given}
use Rattle.core_session.proofs.written_bytes_were_given.Goals as goal

pub returns : goal.returns
returns c = writes-given
