use Rattle.std.proofs.Common.{◌<◌, length, sym, subst}
use Rattle.client_core.specs.View.{View}
use Rattle.client_core.proofs.Places.{at-read}
use Rattle.client_core.proofs.Resting.{rests-at}
use Rattle.client_core.proofs.work.Work.rests_at.Goals as goal

pub returns : goal.returns
returns c =
    let v : View = record { calls = c.self.inside.calls; shelf = c.self.inside.shelf; lanes = c.self.inside.lanes.items; wsize = c.self.inside.wsize; clock = c.self.inside.clock; moments = c.self.inside.moments; begun = c.self.inside.begun; lost = c.self.inside.lost } in
    let there = at-read v.lanes c.args.at c.index.result.now (subst (λ (w : View). c.args.at < length w.lanes) (sym c.self.view_is) c.requires) c.index.ensures in
    rw (← c.self.view_is) (rests-at v c.args.at c.index.result.now c.rests.result there c.rests.ensures)
