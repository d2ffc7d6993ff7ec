use Rattle.client_core.proofs.Sounds.{fails-sound}
use Rattle.client_core.proofs.client.Core.failed.Goals as goal

pub invariant_of-self : goal.invariant_of-self
invariant_of-self c = fails-sound _ _ _ c.failed.ensures c.self.invariant
