use Rattle.std.proofs.Common.{◌<◌, length, sym, subst}
use Rattle.client_core.specs.View.{View}
use Rattle.client_core.proofs.Places.{at-read}
use Rattle.client_core.proofs.Leading.{ends-as}
use Rattle.client_core.proofs.work.Work.end.Goals as goal

pub returns : goal.returns
returns c =
    let v : View = record { calls = c.self.inside.calls; shelf = c.self.inside.shelf; lanes = c.self.inside.lanes.items; wsize = c.self.inside.wsize; clock = c.self.inside.clock; moments = c.self.inside.moments; begun = c.self.inside.begun; lost = c.self.inside.lost } in
    let there = at-read v.lanes c.args.at c.index_mut.result.now (subst (λ (w : View). c.args.at < length w.lanes) (sym c.self.view_is) c.requires.within) c.index_mut.ensures.value in
    rw (← c.self.view_is) (ends-as v c.args.at c.index_mut.result.now c.end.new.self c.args.answer there c.end.ensures)
