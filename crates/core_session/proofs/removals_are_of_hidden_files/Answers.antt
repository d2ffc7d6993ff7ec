use Rattle.core_session.proofs.hidden.Whole.{removals-hidden}
use Rattle.core_session.proofs.removals_are_of_hidden_files.Goals as goal

pub returns : goal.returns
returns c = removals-hidden
