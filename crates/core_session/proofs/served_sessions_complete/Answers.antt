use Rattle.core_session.proofs.outcomes.Complete.{served-complete}
use Rattle.core_session.proofs.served_sessions_complete.Goals as goal

pub returns : goal.returns
returns c = served-complete
