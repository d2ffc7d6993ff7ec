use Rattle.core_session.proofs.order.Cuts.{no-sizes-made}
use Rattle.core_session.proofs.no_file_is_made_with_a_size.Goals as goal

pub returns : goal.returns
returns c = no-sizes-made
