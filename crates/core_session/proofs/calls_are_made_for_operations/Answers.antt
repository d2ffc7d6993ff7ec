use Rattle.core_session.proofs.calls.Causes.{calls-made}
use Rattle.core_session.proofs.calls_are_made_for_operations.Goals as goal

pub returns : goal.returns
returns c = calls-made
