use Rattle.core_session.proofs.settled.LonePuts.{lone-puts-stay}
use Rattle.core_session.proofs.lone_puts_stay.Goals as goal

pub returns : goal.returns
returns c = lone-puts-stay
