use Rattle.core_session.proofs.shown.Current.{reads-current}
use Rattle.core_session.proofs.reads_are_current.Goals as goal

pub returns : goal.returns
returns c = reads-current
