use Rattle.page_cache.proofs.Distinct.{shown-few, shown-distinct}
use Rattle.page_cache.proofs.slots.Slots.are_apart.Goals as goal

pub returns-clause-few : goal.returns-clause-few
returns-clause-few c = rw (← c.self.view_is) (shown-few c.self.inside.order.entries c.self.inside.places c.self.inside.pages c.self.invariant.0)

pub returns-clause-apart : goal.returns-clause-apart
returns-clause-apart c = rw (← c.self.view_is) (shown-distinct c.self.inside.order.entries c.self.inside.places c.self.inside.pages c.self.invariant.0)
