use Rattle.client_core.specs.View.{View}
use Rattle.client_core.proofs.Leading.{puts-record}
use Rattle.client_core.proofs.work.Work.put.Goals as goal

pub returns-clause-ok : goal.returns-clause-ok
returns-clause-ok c =
    let v : View = record { calls = c.self.inside.calls; shelf = c.self.inside.shelf; lanes = c.self.inside.lanes.items; wsize = c.self.inside.wsize; clock = c.self.inside.clock; moments = c.self.inside.moments; begun = c.self.inside.begun; lost = c.self.inside.lost } in
    rw (← c.self.view_is) (puts-record v c.args.purpose c.args.bytes c.put_checked.new.self c.in-Ok.ensures.settings c.in-Ok.ensures.made c.in-Ok.ensures.calls)
