use Rattle.std.proofs.Common.{◌≡◌, ◌↔◌, List, Option, true, subst}
use Rattle.page_store.specs.Pages.{StoredPage}
use Rattle.page_store.specs.Labels.{AreNone}
use Rattle.page_store.proofs.store.PageStore.is_empty.Goals as goal

pub returns : goal.returns
returns g c = rw (← c.self.view_is) (subst (λ (ps : List (Option StoredPage)). (c.are_none.result ≡ true) ↔ AreNone ps) c.as_slice.ensures.value c.are_none.ensures)
