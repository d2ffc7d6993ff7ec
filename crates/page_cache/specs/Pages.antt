-- Kept pages of files: the file's state under which they are believed, and the calls that are too old to tell of it.
use Rattle.std.specs.Prelude.{ℕ, ◌-◌, Bool, true, false, not, ◌==◌, ◌&&◌, ◌||◌, nat_eq, nat_le, max, if◌then◌else◌, List, [], ◌∷◌, take, map, filter, filter_map, slice_get, Option, Some, None, option_map, option_and_then}
use Rattle.std.specs.Option.{option_map_or}
use Rattle.std.specs.Cmp.Lexicographic.{pointwise}
use Rattle.std.specs.Map.{lookup, remove_entry}
use Rattle.indexmap.specs.IndexMap.{insert_entry}
use Rattle.lru.specs.LruCache.{promoted}
use Rattle.nfs_types.specs.declared.kept_page.KeptPage.{KeptPage}
use Rattle.nfs_types.specs.declared.wcc.Stamp.{Stamp}
use Rattle.nfs_types.specs.declared.wcc.Wcc.{Wcc}
use Rattle.nfs_types.specs.Stamps.{same_stamp, stamp_of}
use Rattle.page_cache.specs.declared.state.FileState.{FileState}
use Rattle.page_cache.specs.declared.state.Keep.{Keep}
use Rattle.page_cache.specs.declared.state.Keep.TheVariants.{Stale, Differs, Kept}
use Rattle.page_cache.specs.declared.place.PagePlace.{PagePlace}
use Rattle.page_cache.specs.Bytes.{put_page, cut_page}

-- for how many pages there is room; the files that were opened, in the order of their first opens; and the kept pages, the one that was used last in front
pub record Pages : Type 0 where
  pub room : ℕ
  pub files : List (List ℕ × FileState)
  pub pages : List (PagePlace × List ℕ)

-- no file was opened
abbrev pub nothing_with : ℕ → Pages
nothing_with room = record { room = room; files = []; pages = [] }

-- the same with room for 1,024 pages
abbrev pub nothing_kept : Pages
nothing_kept = nothing_with 1024

-- what is known of a file
abbrev pub state_of : List ℕ → Pages → Option FileState
state_of file c = lookup (pointwise nat_eq file) c.files

-- its known stamp
abbrev pub known_of : List ℕ → Pages → Option Stamp
known_of file c = option_and_then (λ state. state.known) (state_of file c)

-- calls up to this moment are too old
abbrev pub mark_of : List ℕ → Pages → Option ℕ
mark_of file c = option_map (λ state. state.mark) (state_of file c)

-- whether it is this page of this file
abbrev pub is_place : List ℕ → ℕ → PagePlace → Bool
is_place file index place = (place.index == index) && pointwise nat_eq place.file file

-- a kept page
abbrev pub page_of : List ℕ → ℕ → Pages → Option (List ℕ)
page_of file index c = lookup (is_place file index) c.pages

-- whether a stamp is this one; one that isn't there equals nothing
abbrev pub is_stamp : Stamp → Option Stamp → Bool
is_stamp stamp known = option_map_or (λ s. same_stamp s stamp) known false

-- whether two stamps are there and equal
abbrev pub both_same : Option Stamp → Option Stamp → Bool
both_same before known = option_map_or (λ s. is_stamp s known) before false

-- whether it is another file's page
abbrev pub is_of_other : List ℕ → PagePlace × List ℕ → Bool
is_of_other file p = not (pointwise nat_eq p.0.file file)

-- the pages of the other files, in their order
abbrev pub without_file : List ℕ → List (PagePlace × List ℕ) → List (PagePlace × List ℕ)
without_file file pages = filter (is_of_other file) pages

-- the file's state is this one; a file that wasn't there goes last
abbrev pub with_state : List ℕ → Option Stamp → ℕ → Pages → Pages
with_state file known mark c =
    record c { files = insert_entry (pointwise nat_eq) c.files file (record { known = known; mark = mark }) }

-- its pages are dropped, too
abbrev pub restarted : List ℕ → Option Stamp → ℕ → Pages → Pages
restarted file known mark c = with_state file known mark (record c { pages = without_file file c.pages })

-- a kept page goes to the front
abbrev pub after_page : List ℕ → ℕ → Pages → Pages
after_page file index c = record c { pages = promoted (is_place file index) c.pages }

-- after an open: pages that were kept under another stamp go, and the mark doesn't fall
abbrev pub opened_over : Option FileState → List ℕ → Stamp → ℕ → Pages → Pages
opened_over None file stamp mark c = restarted file (Some stamp) mark c
opened_over (Some state) file stamp mark c =
    if is_stamp stamp state.known then with_state file (Some stamp) (max state.mark mark) c
    else restarted file (Some stamp) (max state.mark mark) c

abbrev pub opened : List ℕ → Stamp → ℕ → Pages → Pages
opened file stamp mark c = opened_over (state_of file c) file stamp mark c

-- whether no stamp but this one is known
abbrev pub takes : Stamp → Option Stamp → Bool
takes stamp known = option_map_or (λ s. same_stamp s stamp) known true

-- what becomes of a page that is offered: too old, of another state of the file, or kept
abbrev pub answer_over : Option FileState → Stamp → ℕ → Keep
answer_over None stamp sent = Stale
answer_over (Some state) stamp sent = if nat_le sent state.mark then Stale else (if takes stamp state.known then Kept else Differs)

abbrev pub keep_answer : List ℕ → Stamp → ℕ → Pages → Keep
keep_answer file stamp sent c = answer_over (state_of file c) stamp sent

-- the page in front, in place of an earlier one; of the others stay at most so many as there is room for beside it
abbrev pub fronted : ℕ → PagePlace → List ℕ → List (PagePlace × List ℕ) → List (PagePlace × List ℕ)
fronted room place bytes pages = (place, bytes) ∷ take (room - 1) (remove_entry (is_place place.file place.index) pages)

-- after a page was kept
abbrev pub kept : Stamp → PagePlace → List ℕ → Pages → Pages
kept stamp place bytes c =
    option_map_or (λ state. with_state place.file (Some stamp) state.mark (record c { pages = fronted c.room place bytes c.pages })) (state_of place.file c) c

-- after a page was offered
abbrev pub after_keep : Keep → Stamp → PagePlace → List ℕ → Pages → Pages
after_keep Stale stamp place bytes c = c
after_keep Differs stamp place bytes c = c
after_keep Kept stamp place bytes c = kept stamp place bytes c

-- after a stamp was seen: one that is too old, or known, changes nothing
abbrev pub saw_over : Option FileState → List ℕ → Stamp → ℕ → Pages → Pages
saw_over None file stamp sent c = c
saw_over (Some state) file stamp sent c =
    if nat_le sent state.mark || is_stamp stamp state.known then c else restarted file (Some stamp) state.mark c

abbrev pub saw : List ℕ → Stamp → ℕ → Pages → Pages
saw file stamp sent c = saw_over (state_of file c) file stamp sent c

-- each page of the file is changed
abbrev pub changed_page : List ℕ → (ℕ → List ℕ → List ℕ) → PagePlace × List ℕ → PagePlace × List ℕ
changed_page file change p = if is_of_other file p then p else (p.0, change p.0.index p.1)

-- the state that a change led to: it began in the known state, and its end was told
abbrev pub led_to : Wcc → Option Stamp → Option Stamp
led_to wcc known = if both_same wcc.before known then option_map stamp_of wcc.after else None

-- after the client's own change of a file: its pages follow it if the state that it led to is known, and else are dropped
abbrev pub led_on : Option Stamp → List ℕ → (ℕ → List ℕ → List ℕ) → ℕ → Pages → Pages
led_on (Some stamp) file change moment c =
    with_state file (Some stamp) moment (record c { pages = map (changed_page file change) c.pages })
led_on None file change moment c = restarted file None moment c

abbrev pub changed_over : Option FileState → List ℕ → Wcc → (ℕ → List ℕ → List ℕ) → ℕ → Pages → Pages
changed_over None file wcc change moment c = c
changed_over (Some state) file wcc change moment c = led_on (led_to wcc state.known) file change moment c

-- after its own WRITE of these bytes
abbrev pub wrote : List ℕ → Wcc → ℕ → List ℕ → ℕ → Pages → Pages
wrote file wcc offset bytes moment c = changed_over (state_of file c) file wcc (λ index. put_page index offset bytes) moment c

-- after its own SETATTR of this size
abbrev pub cut : List ℕ → Wcc → ℕ → ℕ → Pages → Pages
cut file wcc size moment c = changed_over (state_of file c) file wcc (λ index. cut_page index size) moment c

-- a page as it is handed out, with its file's known stamp
pub record Handed : Type 0 where
  pub file : List ℕ
  pub stamp : Stamp
  pub index : ℕ
  pub bytes : List ℕ

-- a page that was handed out
abbrev pub shows_page : KeptPage → Handed
shows_page p = record { file = p.file; stamp = p.stamp; index = p.index; bytes = p.bytes.now }

-- a kept page is handed out if its file's stamp is known
abbrev pub handed : Pages → PagePlace × List ℕ → Option Handed
handed c p = option_map (λ stamp. record { file = p.0.file; stamp = stamp; index = p.0.index; bytes = p.1 }) (known_of p.0.file c)

-- the n-th of these pages, from the front
abbrev pub nth_handed : ℕ → Pages → Option Handed
nth_handed n c = slice_get (filter_map (handed c) c.pages) n
