use Rattle.std.proofs.Common.{◌≡◌, sym, ◌∙◌, refl}
use Rattle.rpc_record.specs.declared.gather.Phase.TheVariants as phases
use Rattle.rpc_record.specs.Shown.{IsDone}
use Rattle.rpc_record.proofs.LineSteps.{work_step}
use Rattle.rpc_record.proofs.WaitTurns.{fill_step, fill_turn, turned_on, goes_on_in}
use Rattle.rpc_record.proofs.stream_link.StreamLink.turn.Goals as goal

pub invariant_of-self-in-Header : goal.invariant_of-self-in-Header
invariant_of-self-in-Header g c =
    let f = work_step _ _ c.work.new.self _ c.self.invariant c.in-Ok.ensures.same in
    let is : c.work.new.self.gather.phase ≡ phases.Header = sym c.phase.ensures ∙ c.in-Header.is in
    let done : IsDone phases.Header c.work.new.self.unread = rw is at c.in-Ok.ensures.done in
    (fill_step _ _ _ _ _ c.fill.result f done c.fill.ensures.gather c.fill.ensures.got).follows

pub invariant_of-self-in-Body : goal.invariant_of-self-in-Body
invariant_of-self-in-Body g c =
    let f = work_step _ _ c.work.new.self _ c.self.invariant c.in-Ok.ensures.same in
    let is : c.work.new.self.gather.phase ≡ phases.Body c.in-Body.left c.in-Body.more = sym c.phase.ensures ∙ c.in-Body.is in
    let done : IsDone (phases.Body c.in-Body.left c.in-Body.more) c.work.new.self.unread = rw is at c.in-Ok.ensures.done in
    (fill_step _ _ _ _ _ c.fill-in-Body.result f done c.fill-in-Body.ensures.gather c.fill-in-Body.ensures.got).follows

pub returns-in-Header-clause-turns : goal.returns-in-Header-clause-turns
returns-in-Header-clause-turns g c =
    let f = work_step _ _ c.work.new.self _ c.self.invariant c.in-Ok.ensures.same in
    let is : c.work.new.self.gather.phase ≡ phases.Header = sym c.phase.ensures ∙ c.in-Header.is in
    let done : IsDone phases.Header c.work.new.self.unread = rw is at c.in-Ok.ensures.done in
    let apart : phases.Header ≡ phases.Long → ⊥ = λ l. absurd cc in
    rw (← c.self.view_is) (fill_turn _ _ _ _ _ _ c.fill.result f done c.fill.ensures.gather c.fill.ensures.got c.fill.ensures.cause refl refl (λ l. apart (sym is ∙ c.in-Ok.ensures.shut l)))

pub returns-in-Body-clause-turns : goal.returns-in-Body-clause-turns
returns-in-Body-clause-turns g c =
    let f = work_step _ _ c.work.new.self _ c.self.invariant c.in-Ok.ensures.same in
    let is : c.work.new.self.gather.phase ≡ phases.Body c.in-Body.left c.in-Body.more = sym c.phase.ensures ∙ c.in-Body.is in
    let done : IsDone (phases.Body c.in-Body.left c.in-Body.more) c.work.new.self.unread = rw is at c.in-Ok.ensures.done in
    let apart : phases.Body c.in-Body.left c.in-Body.more ≡ phases.Long → ⊥ = λ l. absurd cc in
    rw (← c.self.view_is) (fill_turn _ _ _ _ _ _ c.fill-in-Body.result f done c.fill-in-Body.ensures.gather c.fill-in-Body.ensures.got c.fill-in-Body.ensures.cause refl refl (λ l. apart (sym is ∙ c.in-Ok.ensures.shut l)))

pub returns-in-Long-clause-turns : goal.returns-in-Long-clause-turns
returns-in-Long-clause-turns g c =
    rw (← c.self.view_is) (turned_on _ _ _ _ _ (goes_on_in _ _ refl refl refl refl c.in-Ok.ensures.shut) (c.refuse_long.ensures.turned c.args.rec.now.items))
