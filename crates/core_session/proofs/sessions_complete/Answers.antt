use Rattle.core_session.proofs.endings.Endings.{sessions-complete}
use Rattle.core_session.proofs.sessions_complete.Goals as goal

pub returns : goal.returns
returns c = sessions-complete
