use Rattle.page_cache.proofs.Later.{none-shown}
use Rattle.page_cache.proofs.slots.Slots.keeps_from.Goals as goal

pub returns-clause-none : goal.returns-clause-none
returns-clause-none c = rw (← c.self.view_is)
    (none-shown c.self.inside.order.entries c.self.inside.places c.self.inside.pages c.self.invariant.0 c.args.file.now c.args.low c.keeps_from.result c.keeps_from.ensures.none)

pub returns-clause-same : goal.returns-clause-same
returns-clause-same c = rw c.keeps_from.ensures.same c.self.view_is

pub invariant_of-self : goal.invariant_of-self
invariant_of-self c = rw c.keeps_from.ensures.same c.self.invariant
