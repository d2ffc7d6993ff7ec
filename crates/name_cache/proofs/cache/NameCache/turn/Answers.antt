use Rattle.name_cache.proofs.Orders.{length-demoted}
use Rattle.name_cache.proofs.cache.NameCache.turn.Goals as goal

pub invariant_of-self-else-eq : goal.invariant_of-self-else-eq
invariant_of-self-else-eq c = rw c.demote.ensures.entries (rw length-demoted (c.self.invariant))
