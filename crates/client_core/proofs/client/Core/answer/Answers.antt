use Rattle.client_core.proofs.Sounds.{answers-sound}
use Rattle.client_core.proofs.client.Core.answer.Goals as goal

pub invariant_of-self : goal.invariant_of-self
invariant_of-self c = answers-sound _ _ _ _ c.answer.ensures c.self.invariant
