use Rattle.core_session.proofs.outcomes.Complete.{undisturbed-complete}
use Rattle.core_session.proofs.undisturbed_sessions_complete.Goals as goal

pub returns : goal.returns
returns c = undisturbed-complete
