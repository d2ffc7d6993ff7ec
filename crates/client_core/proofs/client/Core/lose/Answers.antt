use Rattle.std.proofs.Common.{sym, subst}
use Rattle.client_core.specs.View.{IsSound}
use Rattle.client_core.proofs.Sounds.{lost-sound}
use Rattle.client_core.proofs.client.Core.lose.Goals as goal

pub invariant_of-self : goal.invariant_of-self
invariant_of-self c = subst IsSound (sym c.lose.ensures) (lost-sound _ c.self.invariant)
