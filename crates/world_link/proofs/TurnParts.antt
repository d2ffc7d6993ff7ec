-- The parts of a turn, put together.
use Rattle.std.proofs.Common.{◌≡◌, ℕ, List, Option, Some, Result, Ok, Err, sym, ap, ◌∙◌}
use Rattle.std.specs.Prelude.{OnOk}
use Rattle.export_serve.specs.declared.request.Asked.{Asked}
use Rattle.export_serve.specs.Asking.{asked_at}
use Rattle.world_link.specs.declared.directive.RequestId.{RequestId}
use Rattle.world_link.specs.Handling.{done, plain, readied, copied_record, copied}
use Rattle.world_link.specs.View.{ServerView}

pub copied_is : {T E : Type 0} (result : Result T E) (v own new : ServerView) (s : RequestId) (rec : List ℕ) (asked : Asked) (reply : Option (List ℕ))
    → v.sent s ≡ Some rec → asked ≡ asked_at rec → (own, reply) ≡ done plain v asked → OnOk result (new ≡ readied own reply) → OnOk result (new ≡ copied v s)
copied_is (Err e) v own new s rec asked reply h1 h2 h3 h4 = tt
copied_is (Ok x) v own new s rec asked reply h1 h2 h3 h4 =
    h4 ∙ ap (λ (d : ServerView × Option (List ℕ)). readied d.0 d.1) (h3 ∙ ap (λ (a : Asked). done plain v a) h2) ∙ ap (λ (r : Option (List ℕ)). copied_record v r) (sym h1)
