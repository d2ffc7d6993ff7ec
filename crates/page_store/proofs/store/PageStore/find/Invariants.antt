use Rattle.std.proofs.Common.{◌≡◌, ◌<◌, ℕ}
use Rattle.std.specs.Prelude.{Option, Some, slice_get}
use Rattle.page_store.specs.Pages.{StoredPage}
use Rattle.page_store.specs.Store.{IsOf}
use Rattle.page_store.proofs.store.PageStore.find.Given as goal

-- no slot so far has the page
abbrev pub invariant-loop-shown : goal.invariant-loop-shown
invariant-loop-shown g l = record {
  none : (k : ℕ) (page : Option StoredPage) → k < l.shown-index → slice_get l.self.pages k ≡ Some page → IsOf l.fn.file l.fn.stamp l.fn.index page → ⊥;
  items : l.shown-items ≡ l.self.pages;
}
