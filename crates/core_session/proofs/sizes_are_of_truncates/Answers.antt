use Rattle.core_session.proofs.order.Cuts.{sizes-asked}
use Rattle.core_session.proofs.sizes_are_of_truncates.Goals as goal

pub returns : goal.returns
returns c = sizes-asked
