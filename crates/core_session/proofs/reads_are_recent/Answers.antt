use Rattle.core_session.proofs.current.ReadsRecent.{reads-recent}
use Rattle.core_session.proofs.reads_are_recent.Goals as goal

pub returns : goal.returns
returns c = reads-recent
