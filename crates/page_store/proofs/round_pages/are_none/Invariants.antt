use Rattle.std.proofs.Common.{◌≡◌, ◌<◌, ℕ, Some}
use Rattle.std.specs.Prelude.{slice_get}
use Rattle.page_store.specs.Pages.{StoredPage}
use Rattle.page_store.proofs.round_pages.are_none.Given as goal

-- no slot so far shows a page
abbrev pub invariant-loop-page : goal.invariant-loop-page
invariant-loop-page l = (k : ℕ) (page : StoredPage) → k < l.page-index → slice_get l.pages k ≡ Some (Some page) → ⊥
