use Rattle.std.proofs.Common.{ap, sym, ◌∙◌, position, List}
use Rattle.client_core.specs.declared.lane.Lane.{Lane}
use Rattle.client_core.specs.Lanes.{is_over}
use Rattle.client_core.specs.View.{View}
use Rattle.client_core.proofs.Sounds.{answers-at, not-over}
use Rattle.client_core.proofs.work.Work.answer.Goals as goal

pub returns-in_default : goal.returns-in_default
returns-in_default c =
    let v : View = record { calls = c.self.inside.calls; shelf = c.self.inside.shelf; lanes = c.self.inside.lanes.items; wsize = c.self.inside.wsize; clock = c.self.inside.clock; moments = c.self.inside.moments; begun = c.self.inside.begun; lost = c.self.inside.lost } in
    let found = ap (position (is_over c.args.lane)) (sym c.deref.ensures.value) ∙ sym c.over_at.ensures ∙ c.in_ok-at.was in
    absurd (not-over v c.args.lane c.in_ok-at.at c.remove.result found c.remove.ensures.value c.in_default.not-Over)

pub returns : goal.returns
returns c =
    let v : View = record { calls = c.self.inside.calls; shelf = c.self.inside.shelf; lanes = c.self.inside.lanes.items; wsize = c.self.inside.wsize; clock = c.self.inside.clock; moments = c.self.inside.moments; begun = c.self.inside.begun; lost = c.self.inside.lost } in
    let found = ap (position (is_over c.args.lane)) (sym c.deref.ensures.value) ∙ sym c.over_at.ensures ∙ c.in_ok-at.was in
    rw (c.in-Over.answer-is) (rw (← c.self.view_is) (answers-at v _ c.args.lane c.in_ok-at.at c.remove.result _ found c.remove.ensures.value c.in-Over.is (ap (λ (ls : List Lane). record v { lanes = ls }) c.remove.ensures.items)))
