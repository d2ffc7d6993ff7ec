use Rattle.std.proofs.Common.{◌≡◌, ◌<◌, ◌++◌, ◌∷◌, [], length, true, sym, subst, ap, ◌∙◌}
use Rattle.op_machines.specs.MayStep.{MayStep}
use Rattle.op_machines.specs.Steps.{Starts}
use Rattle.client_shelf.specs.declared.turn.Turn.{Turn}
use Rattle.client_core.specs.declared.lane.Lane.{Lane}
use Rattle.client_core.specs.declared.lane.State.TheVariants.{Busy}
use Rattle.client_core.specs.Between.{Awaits}
use Rattle.client_core.specs.Lanes.{is_busy_at}
use Rattle.client_core.specs.Numbers.{IsIdle}
use Rattle.client_core.specs.Steps.{IsBusyAt, Leads}
use Rattle.client_core.specs.View.{View, turn_at, IsSound}
use Rattle.client_core.proofs.Awaiting.{started}
use Rattle.client_core.proofs.Beginning.{starts-lane, started-busy, started-within}
use Rattle.client_core.proofs.Stirring.{seen-turn}
use Rattle.client_core.proofs.work.Work.start.Goals as goal

pub a_lane_is_left-requires-clause-lanes : goal.a_lane_is_left-requires-clause-lanes
a_lane_is_left-requires-clause-lanes c = c.requires.sound.bound.lanes

pub start-next-requires-clause-may : goal.start-next-requires-clause-may
start-next-requires-clause-may c = subst (λ (w : View). MayStep w.wsize c.turn-turn.result w.shelf) (sym c.self.view_is) c.turn-turn.ensures.may

pub lead-requires-clause-awaits : goal.lead-requires-clause-awaits
lead-requires-clause-awaits c =
    let v : View = record { calls = c.self.inside.calls; shelf = c.self.inside.shelf; lanes = c.self.inside.lanes.items; wsize = c.self.inside.wsize; clock = c.self.inside.clock; moments = c.self.inside.moments; begun = c.self.inside.begun; lost = c.self.inside.lost } in
    let starts : Starts v.wsize c.args.machine (turn_at v) v.shelf c.start-next.result c.start-next.new.self c.start-next.new.shelf = subst (λ (t : Turn). Starts v.wsize c.args.machine t v.shelf c.start-next.result c.start-next.new.self c.start-next.new.shelf)
    (seen-turn v c.args.self.now c.turn-turn.result c.self.view_is c.turn-turn.ensures.turn) c.start-next.ensures in
    let at_is : c.lane_count-at.result ≡ length v.lanes = c.lane_count-at.ensures ∙ ap (λ (w : View). length w.lanes) (sym c.self.view_is) in
    let awaits = started c.steps_hold.ensures v c.args.number c.args.machine c.start-next.new.self c.start-next.result c.start-next.new.shelf (subst IsSound (sym c.self.view_is) c.requires.sound)
    (subst (λ (w : View). w.shelf.seq < w.moments) (sym c.self.view_is) c.requires.seq) (subst (λ (w : View). IsIdle c.args.number w.lanes) (sym c.self.view_is) c.requires.idle) c.requires.fits starts in
    subst (λ (w : View). Awaits w c.lane_count-at.result c.start-next.result) (sym c.push.ensures) (rw at_is awaits)

pub lead-requires-clause-busy : goal.lead-requires-clause-busy
lead-requires-clause-busy c =
    let v : View = record { calls = c.self.inside.calls; shelf = c.self.inside.shelf; lanes = c.self.inside.lanes.items; wsize = c.self.inside.wsize; clock = c.self.inside.clock; moments = c.self.inside.moments; begun = c.self.inside.begun; lost = c.self.inside.lost } in
    let at_is : c.lane_count-at.result ≡ length v.lanes = c.lane_count-at.ensures ∙ ap (λ (w : View). length w.lanes) (sym c.self.view_is) in
    subst (λ (w : View). is_busy_at c.lane_count-at.result w.lanes ≡ true) (sym c.push.ensures) (rw at_is (started-busy v.lanes c.args.number c.start-next.new.self))

pub lead-requires-clause-within : goal.lead-requires-clause-within
lead-requires-clause-within c =
    let v : View = record { calls = c.self.inside.calls; shelf = c.self.inside.shelf; lanes = c.self.inside.lanes.items; wsize = c.self.inside.wsize; clock = c.self.inside.clock; moments = c.self.inside.moments; begun = c.self.inside.begun; lost = c.self.inside.lost } in
    let at_is : c.lane_count-at.result ≡ length v.lanes = c.lane_count-at.ensures ∙ ap (λ (w : View). length w.lanes) (sym c.self.view_is) in
    subst (λ (w : View). c.lane_count-at.result < length w.lanes) (sym c.push.ensures) (rw at_is (started-within v.lanes (record { number = c.args.number; state = Busy c.start-next.new.self })))

pub lead-requires-clause-turn : goal.lead-requires-clause-turn
lead-requires-clause-turn c =
    let v : View = record { calls = c.self.inside.calls; shelf = c.self.inside.shelf; lanes = c.self.inside.lanes.items; wsize = c.self.inside.wsize; clock = c.self.inside.clock; moments = c.self.inside.moments; begun = c.self.inside.begun; lost = c.self.inside.lost } in
    seen-turn v c.args.self.now c.turn-turn.result c.self.view_is c.turn-turn.ensures.turn ∙ ap (λ (w : View). turn_at w) (sym c.push.ensures)

pub returns-clause-starts : goal.returns-clause-starts
returns-clause-starts c =
    let v : View = record { calls = c.self.inside.calls; shelf = c.self.inside.shelf; lanes = c.self.inside.lanes.items; wsize = c.self.inside.wsize; clock = c.self.inside.clock; moments = c.self.inside.moments; begun = c.self.inside.begun; lost = c.self.inside.lost } in
    let starts : Starts v.wsize c.args.machine (turn_at v) v.shelf c.start-next.result c.start-next.new.self c.start-next.new.shelf = subst (λ (t : Turn). Starts v.wsize c.args.machine t v.shelf c.start-next.result c.start-next.new.self c.start-next.new.shelf)
    (seen-turn v c.args.self.now c.turn-turn.result c.self.view_is c.turn-turn.ensures.turn) c.start-next.ensures in
    let at_is : c.lane_count-at.result ≡ length v.lanes = c.lane_count-at.ensures ∙ ap (λ (w : View). length w.lanes) (sym c.self.view_is) in
    rw (← c.self.view_is) (starts-lane v c.args.number c.args.machine c.start-next.new.self c.start-next.result c.start-next.new.shelf c.lead.new.self starts
    (λ other another there. subst (λ (w : View). Leads w (length v.lanes) other another c.start-next.result c.lead.new.self) c.push.ensures
    (rw (← at_is) (c.lead.ensures.leads other another (subst (λ (w : View). IsBusyAt w c.lane_count-at.result other another) (sym c.push.ensures) (rw at_is there))))))
