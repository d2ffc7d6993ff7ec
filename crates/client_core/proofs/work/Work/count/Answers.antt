use Rattle.std.proofs.Common.{◌<◌, ◌^◌, sym, subst}
use Rattle.client_core.specs.View.{View, IsSound}
use Rattle.client_core.proofs.Beginning.{counted-sound}
use Rattle.client_core.proofs.work.Work.count.Goals as goal

pub returns-clause-sound : goal.returns-clause-sound
returns-clause-sound c =
    let v : View = record { calls = c.self.inside.calls; shelf = c.self.inside.shelf; lanes = c.self.inside.lanes.items; wsize = c.self.inside.wsize; clock = c.self.inside.clock; moments = c.self.inside.moments; begun = c.self.inside.begun; lost = c.self.inside.lost } in
    counted-sound v _ (subst (λ (w : View). w.begun < 2 ^ 32) (sym c.self.view_is) c.requires.few) (subst IsSound (sym c.self.view_is) c.requires.sound)
