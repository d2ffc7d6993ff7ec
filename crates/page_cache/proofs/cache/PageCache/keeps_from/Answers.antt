use Rattle.page_cache.proofs.cache.PageCache.keeps_from.Goals as goal

pub returns-clause-none : goal.returns-clause-none
returns-clause-none c = rw (← c.self.view_is) c.keeps_from.ensures.none

pub returns-clause-same : goal.returns-clause-same
returns-clause-same c = rw c.keeps_from.ensures.same c.self.view_is

pub invariant_of-self : goal.invariant_of-self
invariant_of-self c = rw c.keeps_from.ensures.same c.self.invariant
