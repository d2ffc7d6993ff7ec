use Rattle.core_session.proofs.hidden.Joined.{removes-asked}
use Rattle.core_session.proofs.closes_remove_what_was_hidden.Goals as goal

pub returns : goal.returns
returns c = removes-asked
