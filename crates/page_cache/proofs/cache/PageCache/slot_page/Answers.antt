use Rattle.std.proofs.Common.{sym}
use Rattle.page_cache.proofs.Nth.{nth-some}
use Rattle.page_cache.proofs.cache.PageCache.slot_page.Goals as goal

pub returns-in-Some-stamp : goal.returns-in-Some-stamp
returns-in-Some-stamp c =
    let it = c.in-Some.ensures in
    (it.0, sym (nth-some _ c.args.self.now it.0 c.self.view_is c.self.invariant.1 c.in-Some.place c.in-Some.bytes.now c.in-Some-stamp.stamp (sym it.1) c.in-Some-stamp.ensures))
