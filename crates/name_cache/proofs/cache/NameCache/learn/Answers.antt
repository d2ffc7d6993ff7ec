use Rattle.name_cache.proofs.Learning.{put-is-fronted, length-put}
use Rattle.name_cache.proofs.cache.NameCache.learn.Goals as goal

pub invariant_of-self-2 : goal.invariant_of-self-2
invariant_of-self-2 c =
    rw c.in_ok-put.ensures.entries (c.self.invariant.0, length-put c.self.inside.names _ _ c.self.invariant.0 c.self.invariant.1)

pub returns-clause-ok : goal.returns-clause-ok
returns-clause-ok c =
    rw (c.in_ok-put.ensures.entries, ← c.self.view_is) (put-is-fronted c.self.inside.names _ _ c.self.invariant.0 c.self.invariant.1)
