use Rattle.client_core.proofs.Answered.{answered-from}
use Rattle.client_core.proofs.work.Work.least_answered.Goals as goal

pub returns : goal.returns
returns c = rw (← c.self.view_is, rw c.deref.ensures.value at c.least_answered.ensures) (answered-from c.self.inside.lanes.items)
