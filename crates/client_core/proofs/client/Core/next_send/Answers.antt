use Rattle.client_core.proofs.Sounds.{sends-sound}
use Rattle.client_core.proofs.client.Core.next_send.Goals as goal

pub invariant_of-self : goal.invariant_of-self
invariant_of-self c = sends-sound _ _ _ c.next_send.follows.holds-at-none c.self.invariant
