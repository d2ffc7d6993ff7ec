use Rattle.std.proofs.Common.{sym}
use Rattle.dir_list.proofs.Sorted.{lists}
use Rattle.dir_list.proofs.listing.Listing.finish.Goals as goal

pub returns-clause-names : goal.returns-clause-names
returns-clause-names c = rw (c.of.ensures, ← c.self.view_is) (lists _ _ _ c.sort_unstable.ensures.permutation c.sort_unstable.ensures.sorted c.dedup.ensures.filtered)
