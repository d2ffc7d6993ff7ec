-- It is listed, or is now.
use Rattle.std.proofs.Common.{sym, ◌∙◌, subst, List}
use Rattle.trace_claims.specs.declared.operations.Lead.{Lead}
use Rattle.trace_claims.specs.Paths.{AddsLead}
use Rattle.trace_claims.proofs.Pathing.{add-listed, add-new}
use Rattle.trace_claims.proofs.paths.add.Goals as goal

pub returns-in_ok-push : goal.returns-in_ok-push
returns-in_ok-push c = subst (λ (l : List Lead). AddsLead c.args.object c.args.since c.args.list.now.items l) (sym c.in_ok-push.ensures.items) (add-new c.args.object c.args.since c.args.list.now.items)

pub returns-else-not-is_led : goal.returns-else-not-is_led
returns-else-not-is_led c = add-listed c.args.object c.args.since c.args.list.now.items (sym (rw c.as_slice.ensures.value at c.is_led.ensures) ∙ c.if-not-is_led.false)
