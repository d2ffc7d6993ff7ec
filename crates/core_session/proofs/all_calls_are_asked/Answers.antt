use Rattle.core_session.proofs.calls.Whole.{all-calls-asked}
use Rattle.core_session.proofs.all_calls_are_asked.Goals as goal

pub returns : goal.returns
returns c = all-calls-asked
