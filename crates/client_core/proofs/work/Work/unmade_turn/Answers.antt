use Rattle.client_core.specs.View.{View}
use Rattle.client_core.proofs.Bounds.{seen-may-back}
use Rattle.client_core.proofs.work.Work.unmade_turn.Goals as goal

pub returns-clause-may : goal.returns-clause-may
returns-clause-may c =
    let v : View = record { calls = c.self.inside.calls; shelf = c.self.inside.shelf; lanes = c.self.inside.lanes.items; wsize = c.self.inside.wsize; clock = c.self.inside.clock; moments = c.self.inside.moments; begun = c.self.inside.begun; lost = c.self.inside.lost } in
    seen-may-back v c.args.self.now c.self.view_is c.is_sound.ensures c.requires.bound c.requires.ready
