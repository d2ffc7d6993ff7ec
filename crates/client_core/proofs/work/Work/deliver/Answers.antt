use Rattle.std.proofs.Common.{ap, sym, ◌∙◌, position, subst, ◌≡◌, None, Some}
use Rattle.std.specs.Prelude.{Result}
use Rattle.world_model.specs.declared.answer.Fault.{Fault}
use Rattle.world_model.specs.declared.message.Reply.{Reply}
use Rattle.call_replies.specs.Says.{Says}
use Rattle.client_core.specs.Lanes.{is_busy}
use Rattle.client_core.specs.View.{View}
use Rattle.client_core.proofs.Places.{found-busy, found-within}
use Rattle.client_core.proofs.Beginning.{delivers-none, delivers-at}
use Rattle.client_core.proofs.work.Work.deliver.Goals as goal

pub returns-in_default-clause-hears : goal.returns-in_default-clause-hears
returns-in_default-clause-hears c = delivers-none c.args.self.now c.args.rec.now c.args.purpose
    (ap (λ (w : View). position (is_busy c.args.purpose.lane) w.lanes) (sym c.self.view_is) ∙ ap (position (is_busy c.args.purpose.lane)) (sym c.deref.ensures.value) ∙ sym c.in_default.ensures)

pub returns-in_default-clause-says : goal.returns-in_default-clause-says
returns-in_default-clause-says c = λ x has call of. subst (λ (r : Result Reply Fault). Says x call c.args.rec.now r) c.came_of-came.ensures.exact (c.came_of-came.ensures.says x has call of)

pub returns-clause-says : goal.returns-clause-says
returns-clause-says c = λ x has call of. subst (λ (r : Result Reply Fault). Says x call c.args.rec.now r) c.came_of-came.ensures.exact (c.came_of-came.ensures.says x has call of)

pub hear-requires-clause-busy : goal.hear-requires-clause-busy
hear-requires-clause-busy c = found-busy c.args.self.now.lanes c.args.purpose.lane c.in-Some.at
    (ap (λ (w : View). position (is_busy c.args.purpose.lane) w.lanes) (sym c.self.view_is) ∙ ap (position (is_busy c.args.purpose.lane)) (sym c.deref.ensures.value) ∙ sym c.busy_at.ensures ∙ c.in-Some.is)
