use Rattle.std.proofs.Common.{◌≡◌, ◌<◌, length, true, Err, sym, subst, ap, ◌∙◌}
use Rattle.op_machines.specs.MayStep.{MayStep}
use Rattle.client_shelf.specs.declared.turn.Turn.{Turn}
use Rattle.client_core.specs.Between.{AwaitsRefusal}
use Rattle.client_core.specs.Lanes.{LaneFits, LaneTakes, is_busy_at}
use Rattle.client_core.specs.Steps.{IsUnmade}
use Rattle.client_core.specs.View.{View, turn_at, unmade_turn}
use Rattle.client_core.proofs.Places.{at-read, all-at}
use Rattle.client_core.proofs.Refusing.{done-to, waits-to, refuses-at, refused-sound}
use Rattle.client_core.proofs.Stirring.{steps-by, told-takes}
use Rattle.client_core.proofs.work.Work.refuse.Goals as goal

pub took-next-requires-clause-may : goal.took-next-requires-clause-may
took-next-requires-clause-may c = subst (λ (w : View). MayStep w.wsize c.unmade_turn-turn.result w.shelf) (sym c.self.view_is) c.unmade_turn-turn.ensures.may

pub took-next-requires-clause-fits : goal.took-next-requires-clause-fits
took-next-requires-clause-fits c =
    let v : View = record { calls = c.self.inside.calls; shelf = c.self.inside.shelf; lanes = c.self.inside.lanes.items; wsize = c.self.inside.wsize; clock = c.self.inside.clock; moments = c.self.inside.moments; begun = c.self.inside.begun; lost = c.self.inside.lost } in
    let there = at-read v.lanes c.args.at c.index_mut.result.now (subst (λ (w : View). c.args.at < length w.lanes) (sym c.self.view_is) c.requires.within) c.index_mut.ensures.value in
    all-at LaneFits v.lanes c.args.at c.index_mut.result.now (subst (λ (w : View). AwaitsRefusal w c.args.at) (sym c.self.view_is) c.requires.awaits).bound.fits there

pub returns-in_default-clause-refuses : goal.returns-in_default-clause-refuses
returns-in_default-clause-refuses c =
    let v : View = record { calls = c.self.inside.calls; shelf = c.self.inside.shelf; lanes = c.self.inside.lanes.items; wsize = c.self.inside.wsize; clock = c.self.inside.clock; moments = c.self.inside.moments; begun = c.self.inside.begun; lost = c.self.inside.lost } in
    let there = at-read v.lanes c.args.at c.index_mut.result.now (subst (λ (w : View). c.args.at < length w.lanes) (sym c.self.view_is) c.requires.within) c.index_mut.ensures.value in
    let sent : c.args.sent ≡ turn_at v = c.requires.turn ∙ ap (λ (w : View). turn_at w) (sym c.self.view_is) in
    let turn : c.unmade_turn-turn.result ≡ unmade_turn v = c.unmade_turn-turn.ensures.turn ∙ ap (λ (w : View). unmade_turn w) (sym c.self.view_is) in
    let takes = subst (λ (s : Turn). LaneTakes v.wsize c.index_mut.result.now s (unmade_turn v) (Err c.args.fault) v.shelf c.took-next.result c.took-next.new.self c.took-next.new.shelf) sent
    (told-takes v c.args.sent (Err c.args.fault) c.unmade_turn-turn.result (unmade_turn v) c.took-next.result c.index_mut.result.now c.took-next.new.self c.took-next.new.shelf turn c.took-next.ensures) in
    let o = steps-by v c.args.at (turn_at v) (Err c.args.fault) (unmade_turn v) c.took-next.result c.index_mut.result.now c.took-next.new.self c.took-next.new.shelf
    (subst (λ (w : View). is_busy_at c.args.at w.lanes ≡ true) (sym c.self.view_is) c.requires.busy) there takes in
    let unmade = subst (λ (w : View). IsUnmade w c.args.fault) (sym c.self.view_is) c.requires.unmade in
    let awaits = subst (λ (w : View). AwaitsRefusal w c.args.at) (sym c.self.view_is) c.requires.awaits in
    rw (← c.self.view_is) (refuses-at v c.args.at c.args.fault c.took-next.result c.took-next.new.self c.took-next.new.shelf _ unmade o
    (waits-to v c.args.at c.args.fault c.took-next.result c.took-next.new.self c.took-next.new.shelf c.steps_hold.ensures o c.in_default.not-Done))

pub returns-in_default-clause-sound : goal.returns-in_default-clause-sound
returns-in_default-clause-sound c =
    let v : View = record { calls = c.self.inside.calls; shelf = c.self.inside.shelf; lanes = c.self.inside.lanes.items; wsize = c.self.inside.wsize; clock = c.self.inside.clock; moments = c.self.inside.moments; begun = c.self.inside.begun; lost = c.self.inside.lost } in
    let there = at-read v.lanes c.args.at c.index_mut.result.now (subst (λ (w : View). c.args.at < length w.lanes) (sym c.self.view_is) c.requires.within) c.index_mut.ensures.value in
    let sent : c.args.sent ≡ turn_at v = c.requires.turn ∙ ap (λ (w : View). turn_at w) (sym c.self.view_is) in
    let turn : c.unmade_turn-turn.result ≡ unmade_turn v = c.unmade_turn-turn.ensures.turn ∙ ap (λ (w : View). unmade_turn w) (sym c.self.view_is) in
    let takes = subst (λ (s : Turn). LaneTakes v.wsize c.index_mut.result.now s (unmade_turn v) (Err c.args.fault) v.shelf c.took-next.result c.took-next.new.self c.took-next.new.shelf) sent
    (told-takes v c.args.sent (Err c.args.fault) c.unmade_turn-turn.result (unmade_turn v) c.took-next.result c.index_mut.result.now c.took-next.new.self c.took-next.new.shelf turn c.took-next.ensures) in
    let o = steps-by v c.args.at (turn_at v) (Err c.args.fault) (unmade_turn v) c.took-next.result c.index_mut.result.now c.took-next.new.self c.took-next.new.shelf
    (subst (λ (w : View). is_busy_at c.args.at w.lanes ≡ true) (sym c.self.view_is) c.requires.busy) there takes in
    let unmade = subst (λ (w : View). IsUnmade w c.args.fault) (sym c.self.view_is) c.requires.unmade in
    let awaits = subst (λ (w : View). AwaitsRefusal w c.args.at) (sym c.self.view_is) c.requires.awaits in
    refused-sound v c.args.at c.args.fault c.took-next.result c.took-next.new.self c.took-next.new.shelf c.steps_hold.ensures _ awaits unmade o
    (waits-to v c.args.at c.args.fault c.took-next.result c.took-next.new.self c.took-next.new.shelf c.steps_hold.ensures o c.in_default.not-Done)

pub returns-clause-refuses : goal.returns-clause-refuses
returns-clause-refuses c =
    let v : View = record { calls = c.self.inside.calls; shelf = c.self.inside.shelf; lanes = c.self.inside.lanes.items; wsize = c.self.inside.wsize; clock = c.self.inside.clock; moments = c.self.inside.moments; begun = c.self.inside.begun; lost = c.self.inside.lost } in
    let there = at-read v.lanes c.args.at c.index_mut.result.now (subst (λ (w : View). c.args.at < length w.lanes) (sym c.self.view_is) c.requires.within) c.index_mut.ensures.value in
    let sent : c.args.sent ≡ turn_at v = c.requires.turn ∙ ap (λ (w : View). turn_at w) (sym c.self.view_is) in
    let turn : c.unmade_turn-turn.result ≡ unmade_turn v = c.unmade_turn-turn.ensures.turn ∙ ap (λ (w : View). unmade_turn w) (sym c.self.view_is) in
    let takes = subst (λ (s : Turn). LaneTakes v.wsize c.index_mut.result.now s (unmade_turn v) (Err c.args.fault) v.shelf c.took-next.result c.took-next.new.self c.took-next.new.shelf) sent
    (told-takes v c.args.sent (Err c.args.fault) c.unmade_turn-turn.result (unmade_turn v) c.took-next.result c.index_mut.result.now c.took-next.new.self c.took-next.new.shelf turn c.took-next.ensures) in
    let o = steps-by v c.args.at (turn_at v) (Err c.args.fault) (unmade_turn v) c.took-next.result c.index_mut.result.now c.took-next.new.self c.took-next.new.shelf
    (subst (λ (w : View). is_busy_at c.args.at w.lanes ≡ true) (sym c.self.view_is) c.requires.busy) there takes in
    let unmade = subst (λ (w : View). IsUnmade w c.args.fault) (sym c.self.view_is) c.requires.unmade in
    let awaits = subst (λ (w : View). AwaitsRefusal w c.args.at) (sym c.self.view_is) c.requires.awaits in
    rw (← c.self.view_is) (refuses-at v c.args.at c.args.fault c.took-next.result c.took-next.new.self c.took-next.new.shelf c.end.new.self unmade o
    (done-to v c.args.at c.args.fault c.took-next.result c.took-next.new.self c.took-next.new.shelf c.in-Done.answer c.end.new.self o c.in-Done.is c.end.ensures))

pub returns-clause-sound : goal.returns-clause-sound
returns-clause-sound c =
    let v : View = record { calls = c.self.inside.calls; shelf = c.self.inside.shelf; lanes = c.self.inside.lanes.items; wsize = c.self.inside.wsize; clock = c.self.inside.clock; moments = c.self.inside.moments; begun = c.self.inside.begun; lost = c.self.inside.lost } in
    let there = at-read v.lanes c.args.at c.index_mut.result.now (subst (λ (w : View). c.args.at < length w.lanes) (sym c.self.view_is) c.requires.within) c.index_mut.ensures.value in
    let sent : c.args.sent ≡ turn_at v = c.requires.turn ∙ ap (λ (w : View). turn_at w) (sym c.self.view_is) in
    let turn : c.unmade_turn-turn.result ≡ unmade_turn v = c.unmade_turn-turn.ensures.turn ∙ ap (λ (w : View). unmade_turn w) (sym c.self.view_is) in
    let takes = subst (λ (s : Turn). LaneTakes v.wsize c.index_mut.result.now s (unmade_turn v) (Err c.args.fault) v.shelf c.took-next.result c.took-next.new.self c.took-next.new.shelf) sent
    (told-takes v c.args.sent (Err c.args.fault) c.unmade_turn-turn.result (unmade_turn v) c.took-next.result c.index_mut.result.now c.took-next.new.self c.took-next.new.shelf turn c.took-next.ensures) in
    let o = steps-by v c.args.at (turn_at v) (Err c.args.fault) (unmade_turn v) c.took-next.result c.index_mut.result.now c.took-next.new.self c.took-next.new.shelf
    (subst (λ (w : View). is_busy_at c.args.at w.lanes ≡ true) (sym c.self.view_is) c.requires.busy) there takes in
    let unmade = subst (λ (w : View). IsUnmade w c.args.fault) (sym c.self.view_is) c.requires.unmade in
    let awaits = subst (λ (w : View). AwaitsRefusal w c.args.at) (sym c.self.view_is) c.requires.awaits in
    refused-sound v c.args.at c.args.fault c.took-next.result c.took-next.new.self c.took-next.new.shelf c.steps_hold.ensures c.end.new.self awaits unmade o
    (done-to v c.args.at c.args.fault c.took-next.result c.took-next.new.self c.took-next.new.shelf c.in-Done.answer c.end.new.self o c.in-Done.is c.end.ensures)
