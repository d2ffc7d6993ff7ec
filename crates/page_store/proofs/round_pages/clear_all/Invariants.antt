use Rattle.std.proofs.Common.{◌≡◌, ◌<◌, ℕ, length, Some}
use Rattle.std.specs.Prelude.{slice_get}
use Rattle.page_store.specs.Pages.{StoredPage}
use Rattle.page_store.proofs.round_pages.clear_all.Given as goal

-- the slots so far count as closed
abbrev pub invariant-loop-slot : goal.invariant-loop-slot
invariant-loop-slot l = record {
  none : (k : ℕ) (page : StoredPage) → k < l.slot → slice_get l.pages.items k ≡ Some (Some page) → ⊥;
  long : length l.pages.items ≡ length l.fn.pages.items;
}
