use Rattle.page_cache.proofs.SortedSlots.{found}
use Rattle.page_cache.proofs.sorted.place_of.Goals as goal

pub returns-else-is_at-clause-within : goal.returns-else-is_at-clause-within
returns-else-is_at-clause-within c = (found c.args.by_slot.now c.args.sorted.now c.requires.sorted c.args.page.now c.count_before.result c.args.slot c.count_before.ensures c.requires.low c.requires.holds).0

pub returns-else-is_at-clause-there : goal.returns-else-is_at-clause-there
returns-else-is_at-clause-there c = (found c.args.by_slot.now c.args.sorted.now c.requires.sorted c.args.page.now c.count_before.result c.args.slot c.count_before.ensures c.requires.low c.requires.holds).1
