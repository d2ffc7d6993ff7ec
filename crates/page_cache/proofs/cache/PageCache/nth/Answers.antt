use Rattle.page_cache.proofs.Nth.{nth-some, nth-unknown, nth-missing}
use Rattle.page_cache.proofs.cache.PageCache.nth.Goals as goal

pub returns-in-Some-stamp : goal.returns-in-Some-stamp
returns-in-Some-stamp c = nth-some _ c.args.self.now c.args.n c.self.view_is c.self.invariant.1 c.in-Some.place c.in-Some.bytes.now c.in-Some-stamp.stamp c.in-Some.ensures c.in-Some-stamp.ensures

pub returns-in-None-stamp : goal.returns-in-None-stamp
returns-in-None-stamp c = nth-unknown _ c.args.self.now c.args.n c.self.view_is c.self.invariant.1 c.in-Some.place c.in-Some.bytes.now c.in-Some.ensures c.in-None-stamp.ensures

pub returns-in-None : goal.returns-in-None
returns-in-None c = nth-missing _ c.args.self.now c.args.n c.self.view_is c.self.invariant.1 c.in-None.ensures
