use Rattle.std.proofs.Common.{◌≡◌, ◌<◌, ◌≤◌, ℕ, length}
use Rattle.std.specs.Prelude.{slice_get}
use Rattle.page_store.specs.Store.{shown_at}
use Rattle.page_store.specs.Rounds.{shown_after, entry_at}
use Rattle.page_store.proofs.round_pages.show_filled.Given as goal

-- the slots so far show their pages, and the others are as they were
abbrev pub invariant-loop-slot : goal.invariant-loop-slot
invariant-loop-slot l = record {
  pages_long : length l.pages.items ≡ length l.fn.pages.items;
  round_long : length l.round.items ≡ length l.fn.round.items;
  shown : (k : ℕ) → k < l.slot → shown_at k l.pages.items ≡ shown_after (entry_at k l.fn.round.items) (shown_at k l.fn.pages.items);
  pages : (k : ℕ) → l.slot ≤ k → slice_get l.pages.items k ≡ slice_get l.fn.pages.items k;
  round : (k : ℕ) → l.slot ≤ k → slice_get l.round.items k ≡ slice_get l.fn.round.items k;
}
