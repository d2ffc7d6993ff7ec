use Rattle.std.proofs.Common.{◌≡◌, ◌<◌, length, true, sym, subst, ap, ◌∙◌}
use Rattle.op_machines.specs.MayStep.{MayStep}
use Rattle.client_shelf.specs.Coming.{reply_of}
use Rattle.client_core.specs.Lanes.{LaneFits, is_busy_at}
use Rattle.client_core.specs.View.{View, turn_at, IsSound}
use Rattle.client_core.proofs.Places.{at-read, all-at}
use Rattle.client_core.proofs.Stirring.{steps-by, by-awaits, by-busy, by-takes, told-takes, seen-turn}
use Rattle.client_core.proofs.work.Work.hear.Goals as goal

pub took-next-requires-clause-may : goal.took-next-requires-clause-may
took-next-requires-clause-may c = subst (λ (w : View). MayStep w.wsize c.turn-turn.result w.shelf) (sym c.self.view_is) c.turn-turn.ensures.may

pub took-next-requires-clause-fits : goal.took-next-requires-clause-fits
took-next-requires-clause-fits c =
    let v : View = record { calls = c.self.inside.calls; shelf = c.self.inside.shelf; lanes = c.self.inside.lanes.items; wsize = c.self.inside.wsize; clock = c.self.inside.clock; moments = c.self.inside.moments; begun = c.self.inside.begun; lost = c.self.inside.lost } in
    let there = at-read v.lanes c.args.at c.index_mut.result.now (subst (λ (w : View). c.args.at < length w.lanes) (sym c.self.view_is) c.requires.within) c.index_mut.ensures.value in
    all-at LaneFits v.lanes c.args.at c.index_mut.result.now (subst IsSound (sym c.self.view_is) c.requires.sound).bound.fits there

pub lead-requires-clause-awaits : goal.lead-requires-clause-awaits
lead-requires-clause-awaits c =
    let v : View = record { calls = c.self.inside.calls; shelf = c.self.inside.shelf; lanes = c.self.inside.lanes.items; wsize = c.self.inside.wsize; clock = c.self.inside.clock; moments = c.self.inside.moments; begun = c.self.inside.begun; lost = c.self.inside.lost } in
    let there = at-read v.lanes c.args.at c.index_mut.result.now (subst (λ (w : View). c.args.at < length w.lanes) (sym c.self.view_is) c.requires.within) c.index_mut.ensures.value in
    let takes = told-takes v c.args.sent (reply_of c.args.came.now) c.turn-turn.result (turn_at v) c.took-next.result c.index_mut.result.now c.took-next.new.self c.took-next.new.shelf (seen-turn v c.args.self.now c.turn-turn.result c.self.view_is c.turn-turn.ensures.turn) c.took-next.ensures in
    by-awaits c.steps_hold.ensures v c.args.at c.args.sent (reply_of c.args.came.now) c.took-next.result c.took-next.new.self c.took-next.new.shelf (subst IsSound (sym c.self.view_is) c.requires.sound)
    (subst (λ (w : View). w.shelf.seq < w.moments) (sym c.self.view_is) c.requires.seq)
    (steps-by v c.args.at c.args.sent (reply_of c.args.came.now) (turn_at v) c.took-next.result c.index_mut.result.now c.took-next.new.self c.took-next.new.shelf (subst (λ (w : View). is_busy_at c.args.at w.lanes ≡ true) (sym c.self.view_is) c.requires.busy) there takes)

pub lead-requires-clause-busy : goal.lead-requires-clause-busy
lead-requires-clause-busy c =
    let v : View = record { calls = c.self.inside.calls; shelf = c.self.inside.shelf; lanes = c.self.inside.lanes.items; wsize = c.self.inside.wsize; clock = c.self.inside.clock; moments = c.self.inside.moments; begun = c.self.inside.begun; lost = c.self.inside.lost } in
    let there = at-read v.lanes c.args.at c.index_mut.result.now (subst (λ (w : View). c.args.at < length w.lanes) (sym c.self.view_is) c.requires.within) c.index_mut.ensures.value in
    let takes = told-takes v c.args.sent (reply_of c.args.came.now) c.turn-turn.result (turn_at v) c.took-next.result c.index_mut.result.now c.took-next.new.self c.took-next.new.shelf (seen-turn v c.args.self.now c.turn-turn.result c.self.view_is c.turn-turn.ensures.turn) c.took-next.ensures in
    by-busy v c.args.at c.args.sent (reply_of c.args.came.now) (turn_at v) c.took-next.result c.took-next.new.self c.took-next.new.shelf
    (steps-by v c.args.at c.args.sent (reply_of c.args.came.now) (turn_at v) c.took-next.result c.index_mut.result.now c.took-next.new.self c.took-next.new.shelf (subst (λ (w : View). is_busy_at c.args.at w.lanes ≡ true) (sym c.self.view_is) c.requires.busy) there takes)

pub returns-clause-takes : goal.returns-clause-takes
returns-clause-takes c =
    let v : View = record { calls = c.self.inside.calls; shelf = c.self.inside.shelf; lanes = c.self.inside.lanes.items; wsize = c.self.inside.wsize; clock = c.self.inside.clock; moments = c.self.inside.moments; begun = c.self.inside.begun; lost = c.self.inside.lost } in
    let there = at-read v.lanes c.args.at c.index_mut.result.now (subst (λ (w : View). c.args.at < length w.lanes) (sym c.self.view_is) c.requires.within) c.index_mut.ensures.value in
    let takes = told-takes v c.args.sent (reply_of c.args.came.now) c.turn-turn.result (turn_at v) c.took-next.result c.index_mut.result.now c.took-next.new.self c.took-next.new.shelf (seen-turn v c.args.self.now c.turn-turn.result c.self.view_is c.turn-turn.ensures.turn) c.took-next.ensures in
    rw (← c.self.view_is) (by-takes v c.args.at c.args.sent (reply_of c.args.came.now) c.took-next.result c.took-next.new.self c.took-next.new.shelf c.lead.new.self
    (steps-by v c.args.at c.args.sent (reply_of c.args.came.now) (turn_at v) c.took-next.result c.index_mut.result.now c.took-next.new.self c.took-next.new.shelf (subst (λ (w : View). is_busy_at c.args.at w.lanes ≡ true) (sym c.self.view_is) c.requires.busy) there takes) c.lead.ensures.leads)
