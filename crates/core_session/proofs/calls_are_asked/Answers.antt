use Rattle.core_session.proofs.asked.Whole.{all-asked}
use Rattle.core_session.proofs.calls_are_asked.Goals as goal

pub returns : goal.returns
returns c = all-asked
