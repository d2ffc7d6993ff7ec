use Rattle.std.proofs.Common.{◌≡◌, ◌∙◌, ap, sym, Some, Option}
use Rattle.std.proofs.lemmas.Result.{on_ok_weaker}
use Rattle.page_store.specs.Pages.{StoredPage}
use Rattle.page_store.proofs.rounds.open_one.Goals as goal

pub returns-in-Some-clause-opening : goal.returns-in-Some-clause-opening
returns-in-Some-clause-opening g c = λ tells n low round there image each.
    c.open_filled.ensures.opening tells n low round (there ∙ ap (λ (entry : Option (Option StoredPage)). Some entry) c.in-Some.is) image each

pub returns-in-Some-clause-any_moment : goal.returns-in-Some-clause-any_moment
returns-in-Some-clause-any_moment g c = λ tells n low round there image each.
    c.open_filled.ensures.any_moment tells n low round (there ∙ ap (λ (entry : Option (Option StoredPage)). Some entry) c.in-Some.is) image each

pub returns-in-Some-clause-opened : goal.returns-in-Some-clause-opened
returns-in-Some-clause-opened g c = λ tells.
    on_ok_weaker c.open_filled.result (λ h page is. h page (inner c.in-Some.page page (sym c.in-Some.is ∙ is))) (c.open_filled.ensures.opened tells)
  where
    inner : (o : Option StoredPage) (page : StoredPage) → Some o ≡ Some (Some page) → o ≡ Some page
    inner o page e = cc
