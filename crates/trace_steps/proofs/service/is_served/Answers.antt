-- The tests decide whether a call is served.
use Rattle.std.proofs.Common.{◌≡◌, sym, ◌∙◌, Bool, Ok, Err, Result}
use Rattle.std.specs.Prelude.{IfOk, ◌↔◌, IsTrue, Decides}
use Rattle.trace_steps.proofs.StepDone.{serves-decides}
use Rattle.trace_steps.proofs.service.is_served.Goals as goal

decided : {P E : Type 0} → (b : Bool) → Decides b P → (r : Result Bool E) → IfOk r (λ x. x ≡ b) → IfOk r (λ x. IsTrue x ↔ P)
decided b d (Ok x) e = (λ t. d.0 (sym e ∙ t), λ p. e ∙ d.1 p)
decided b d (Err x) e = tt

pub returns : goal.returns
returns c = decided _ (serves-decides c.args.trace.now c.args.entry c.args.call.now c.args.reply.now) _ c.serves.ensures
