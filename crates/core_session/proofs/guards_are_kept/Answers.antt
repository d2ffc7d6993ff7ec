use Rattle.core_session.proofs.drops.Shown.{guards-kept}
use Rattle.core_session.proofs.guards_are_kept.Goals as goal

pub returns : goal.returns
returns c = guards-kept
