use Rattle.page_cache.proofs.Later.{none-later}
use Rattle.page_cache.proofs.places.Places.keeps_from.Goals as goal

pub returns-clause-none : goal.returns-clause-none
returns-clause-none c =
    let gap = rw (c.deref.ensures.value, c.deref-2.ensures.value) at c.count_near-at.ensures in
    let is = rw (c.deref-3.ensures.value, c.deref-4.ensures.value) at c.is_of_file_at.ensures in
    rw (← c.self.view_is)
    (none-later c.self.inside.by_slot.items c.self.inside.sorted.items c.self.invariant.0 c.args.file.now c.args.low c.count_near-at.result gap c.is_of_file_at.result is)
