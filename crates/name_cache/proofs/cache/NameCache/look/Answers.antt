use Rattle.name_cache.proofs.Orders.{length-promoted}
use Rattle.name_cache.proofs.cache.NameCache.look.Goals as goal

pub invariant_of-self : goal.invariant_of-self
invariant_of-self c = rw c.promote.ensures.entries (rw length-promoted (c.self.invariant))
