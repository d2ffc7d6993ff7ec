-- What a cache is once a page that it showed is let go.
use Rattle.std.specs.Prelude.{◌≡◌, ⊤}
use Rattle.std.specs.Borrow.{Fml, MutBor, follows_so}
use mathlib.Core.Option.{none}
use Rattle.page_cache.specs.Pages.{Pages}
use Rattle.page_cache.specs.Slots.{SlotPages}
use Rattle.page_cache.specs.contracts.cache.PageCache.{the_row}
use Rattle.page_cache.specs.contracts.slots.Slots.{the_row as slots_row}

module _ (h : MutBor Pages) where
  abbrev pub ends_with : Pages → Fml
  ends_with after = follows_so the_row the_row h.ghost_name none (λ _ _. ⊤) (λ n. n ≡ after)

module _ (h : MutBor SlotPages) where
  abbrev pub shows_with : SlotPages → Fml
  shows_with after = follows_so slots_row slots_row h.ghost_name none (λ _ _. ⊤) (λ n. n ≡ after)
