use Rattle.std.proofs.Common.{◌≡◌, ◌<◌, length, true, false, Some, slice_get, slice_set, sym, subst, ap, ◌∙◌, arith}
use Rattle.std.proofs.lemmas.List.{length-set}
use Rattle.op_machines.specs.MayStep.{MayStep}
use Rattle.client_core.specs.Lanes.{LaneResumes}
use Rattle.client_core.specs.View.{View, has_room, turn_at, IsSound}
use Rattle.client_core.proofs.Places.{at-read}
use Rattle.client_core.proofs.Stirring.{StepsOn, waits-still, waits-as, steps-on, on-awaits, on-busy, on-stirs, goes-on, told-resumes, seen-turn}
use Rattle.client_core.proofs.work.Work.stir_awake.Goals as goal

pub resume-next-requires : goal.resume-next-requires
resume-next-requires c = record { may = subst (λ (w : View). MayStep w.wsize c.turn-turn.result w.shelf) (sym c.self.view_is) c.turn-turn.ensures.may }

pub returns-then-waits-clause-stirs : goal.returns-then-waits-clause-stirs
returns-then-waits-clause-stirs c =
    let v : View = record { calls = c.self.inside.calls; shelf = c.self.inside.shelf; lanes = c.self.inside.lanes.items; wsize = c.self.inside.wsize; clock = c.self.inside.clock; moments = c.self.inside.moments; begun = c.self.inside.begun; lost = c.self.inside.lost } in
    let there = at-read v.lanes c.args.at c.index_mut.result.now (subst (λ (w : View). c.args.at < length w.lanes) (sym c.self.view_is) c.requires.within) c.index_mut.ensures.value in
    let resumes = told-resumes v c.turn-turn.result c.resume-next.result c.index_mut.result.now c.resume-next.new.self c.resume-next.new.shelf (seen-turn v c.args.self.now c.turn-turn.result c.self.view_is c.turn-turn.ensures.turn) c.resume-next.ensures in
    rw (← c.self.view_is) (waits-still c.steps_hold.ensures v c.args.at c.index_mut.result.now c.resume-next.new.self c.resume-next.new.shelf (subst (λ (w : View). has_room w ≡ true) (sym c.self.view_is) c.requires.room) there
    (waits-as v c.resume-next.result c.index_mut.result.now c.resume-next.new.self c.resume-next.new.shelf (sym c.waits.ensures ∙ c.if-waits.true) resumes))

pub returns-then-waits-clause-sound : goal.returns-then-waits-clause-sound
returns-then-waits-clause-sound c =
    let v : View = record { calls = c.self.inside.calls; shelf = c.self.inside.shelf; lanes = c.self.inside.lanes.items; wsize = c.self.inside.wsize; clock = c.self.inside.clock; moments = c.self.inside.moments; begun = c.self.inside.begun; lost = c.self.inside.lost } in
    let there = at-read v.lanes c.args.at c.index_mut.result.now (subst (λ (w : View). c.args.at < length w.lanes) (sym c.self.view_is) c.requires.within) c.index_mut.ensures.value in
    let resumes = told-resumes v c.turn-turn.result c.resume-next.result c.index_mut.result.now c.resume-next.new.self c.resume-next.new.shelf (seen-turn v c.args.self.now c.turn-turn.result c.self.view_is c.turn-turn.ensures.turn) c.resume-next.ensures in
    let still = waits-still c.steps_hold.ensures v c.args.at c.index_mut.result.now c.resume-next.new.self c.resume-next.new.shelf (subst (λ (w : View). has_room w ≡ true) (sym c.self.view_is) c.requires.room) there
    (waits-as v c.resume-next.result c.index_mut.result.now c.resume-next.new.self c.resume-next.new.shelf (sym c.waits.ensures ∙ c.if-waits.true) resumes) in
    subst IsSound (sym still.0) (subst IsSound (sym c.self.view_is) c.requires.sound)

pub lead-requires-clause-awaits : goal.lead-requires-clause-awaits
lead-requires-clause-awaits c =
    let v : View = record { calls = c.self.inside.calls; shelf = c.self.inside.shelf; lanes = c.self.inside.lanes.items; wsize = c.self.inside.wsize; clock = c.self.inside.clock; moments = c.self.inside.moments; begun = c.self.inside.begun; lost = c.self.inside.lost } in
    let there = at-read v.lanes c.args.at c.index_mut.result.now (subst (λ (w : View). c.args.at < length w.lanes) (sym c.self.view_is) c.requires.within) c.index_mut.ensures.value in
    let resumes = told-resumes v c.turn-turn.result c.resume-next.result c.index_mut.result.now c.resume-next.new.self c.resume-next.new.shelf (seen-turn v c.args.self.now c.turn-turn.result c.self.view_is c.turn-turn.ensures.turn) c.resume-next.ensures in
    on-awaits c.steps_hold.ensures v c.args.at c.resume-next.result c.resume-next.new.self c.resume-next.new.shelf (subst IsSound (sym c.self.view_is) c.requires.sound)
    (steps-on v c.args.at c.resume-next.result c.index_mut.result.now c.resume-next.new.self c.resume-next.new.shelf (goes-on c.resume-next.result (sym c.waits.ensures ∙ c.if-waits.false)) there resumes)

pub lead-requires-clause-busy : goal.lead-requires-clause-busy
lead-requires-clause-busy c =
    let v : View = record { calls = c.self.inside.calls; shelf = c.self.inside.shelf; lanes = c.self.inside.lanes.items; wsize = c.self.inside.wsize; clock = c.self.inside.clock; moments = c.self.inside.moments; begun = c.self.inside.begun; lost = c.self.inside.lost } in
    let there = at-read v.lanes c.args.at c.index_mut.result.now (subst (λ (w : View). c.args.at < length w.lanes) (sym c.self.view_is) c.requires.within) c.index_mut.ensures.value in
    let resumes = told-resumes v c.turn-turn.result c.resume-next.result c.index_mut.result.now c.resume-next.new.self c.resume-next.new.shelf (seen-turn v c.args.self.now c.turn-turn.result c.self.view_is c.turn-turn.ensures.turn) c.resume-next.ensures in
    on-busy v c.args.at c.resume-next.result c.resume-next.new.self c.resume-next.new.shelf
    (steps-on v c.args.at c.resume-next.result c.index_mut.result.now c.resume-next.new.self c.resume-next.new.shelf (goes-on c.resume-next.result (sym c.waits.ensures ∙ c.if-waits.false)) there resumes)

pub returns-clause-stirs : goal.returns-clause-stirs
returns-clause-stirs c =
    let v : View = record { calls = c.self.inside.calls; shelf = c.self.inside.shelf; lanes = c.self.inside.lanes.items; wsize = c.self.inside.wsize; clock = c.self.inside.clock; moments = c.self.inside.moments; begun = c.self.inside.begun; lost = c.self.inside.lost } in
    let there = at-read v.lanes c.args.at c.index_mut.result.now (subst (λ (w : View). c.args.at < length w.lanes) (sym c.self.view_is) c.requires.within) c.index_mut.ensures.value in
    let resumes = told-resumes v c.turn-turn.result c.resume-next.result c.index_mut.result.now c.resume-next.new.self c.resume-next.new.shelf (seen-turn v c.args.self.now c.turn-turn.result c.self.view_is c.turn-turn.ensures.turn) c.resume-next.ensures in
    let goes = goes-on c.resume-next.result (sym c.waits.ensures ∙ c.if-waits.false) in
    rw (← c.self.view_is) (on-stirs v c.args.at c.resume-next.result c.resume-next.new.self c.resume-next.new.shelf c.lead.new.self
    (steps-on v c.args.at c.resume-next.result c.index_mut.result.now c.resume-next.new.self c.resume-next.new.shelf goes there resumes) goes c.lead.ensures.leads)
