-- After the client's own change of a file, where the state that it led to is known.
use Rattle.std.proofs.Common.{◌≡◌, ℕ, List, map, nat_eq, Some, sym, refl}
use Rattle.std.specs.Cmp.Lexicographic.{pointwise}
use Rattle.std.specs.Map.{lookup}
use Rattle.indexmap.specs.IndexMap.{insert_entry}
use Rattle.page_cache.specs.declared.place.PagePlace.{PagePlace}
use Rattle.nfs_types.specs.declared.wcc.Stamp.{Stamp}
use Rattle.nfs_types.specs.declared.wcc.Wcc.{Wcc}
use Rattle.page_cache.specs.declared.state.FileState.{FileState}
use Rattle.page_cache.specs.Pages.{Pages, state_of, with_state, changed_page, changed_over, led_to}

pub changed-is : (file : List ℕ) (wcc : Wcc) (change : ℕ → List ℕ → List ℕ) (moment : ℕ) (c : Pages) (state : FileState) (known : Stamp)
    → Some state ≡ state_of file c → Some known ≡ led_to wcc state.known
    → with_state file (Some known) moment (record c { pages = map (changed_page file change) c.pages }) ≡ changed_over (state_of file c) file wcc change moment c
changed-is file wcc change moment c state known is led = rw (sym is, sym led) refl

-- the same where the files and the pages are each what they came to
pub changed-now : (file : List ℕ) (wcc : Wcc) (change : ℕ → List ℕ → List ℕ) (moment : ℕ) (room : ℕ) (files new_files : List (List ℕ × FileState)) (pages new_pages : List (PagePlace × List ℕ))
    (state : FileState) (known : Stamp) → Some state ≡ lookup (pointwise nat_eq file) files → Some known ≡ led_to wcc state.known
    → new_files ≡ insert_entry (pointwise nat_eq) files file (record { known = Some known; mark = moment }) → new_pages ≡ map (changed_page file change) pages
    → ◌≡◌ {A = Pages} (record { room = room; files = new_files; pages = new_pages }) (changed_over (lookup (pointwise nat_eq file) files) file wcc change moment (record { room = room; files = files; pages = pages }))
changed-now file wcc change moment room files new_files pages new_pages state known is led files_are pages_are =
    rw (files_are, pages_are) (changed-is file wcc change moment (record { room = room; files = files; pages = pages }) state known is led)
