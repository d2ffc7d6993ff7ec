use Rattle.core_session.proofs.drops.Shown.{refused-owes}
use Rattle.core_session.proofs.refused_closes_are_owed.Goals as goal

pub returns : goal.returns
returns c = refused-owes
