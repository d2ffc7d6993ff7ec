-- A page that was kept is the one that the cache shows.
use Rattle.std.proofs.Common.{◌≡◌, ℕ, List, Option, Some, None, refl}
use Rattle.nfs_types.specs.declared.wcc.Stamp.{Stamp}
use Rattle.page_cache.specs.declared.state.FileState.{FileState}
use Rattle.page_cache.specs.declared.state.Keep.TheVariants.{Kept}
use Rattle.page_cache.specs.Pages.{Pages, state_of, page_of, keep_answer, answer_over, after_keep}
use Rattle.page_cache.proofs.Shown.{is_place-same}

pub kept_shows : (file : List ℕ) (stamp : Stamp) (sent : ℕ) (bytes : List ℕ) (c : Pages) → keep_answer file stamp sent c ≡ Kept
    → page_of file 0 (after_keep Kept stamp (record { file = file; index = 0 }) bytes c) ≡ Some bytes
kept_shows file stamp sent bytes c answer = by (state_of file c) refl answer
  where
    by : (s : Option FileState) → state_of file c ≡ s → answer_over s stamp sent ≡ Kept
        → page_of file 0 (after_keep Kept stamp (record { file = file; index = 0 }) bytes c) ≡ Some bytes
    by None is told = cc
    by (Some s) is told = rw (is, is_place-same (record { file = file; index = 0 })) refl
