-- Whole pages of 4,096 bytes: of each file those below a number, so that a change of the file needs no walk over them.
use Rattle.std.specs.Prelude.{◌≡◌, ◌<◌, ◌≤◌, ℕ, true, List, [], ◌∷◌, length, map, nat_eq, Some, ⊤}
use Rattle.std.specs.Option.{option_map_or}
use Rattle.std.specs.Cmp.Lexicographic.{pointwise}
use Rattle.std.specs.Map.{lookup}
use Rattle.nfs_types.specs.declared.wcc.Stamp.{Stamp}
use Rattle.page_cache.specs.declared.place.PagePlace.{PagePlace}
use Rattle.page_cache.specs.declared.state.FileState.{FileState}
use Rattle.page_cache.specs.declared.files.FileRecord.{FileRecord}

-- what is known of the files
abbrev pub states_of : List (List ℕ × FileRecord) → List (List ℕ × FileState)
states_of files = map (λ e. (e.0, e.1.state)) files

-- what is known of a file once this stamp is, at the mark that it had
abbrev pub learned : FileRecord → Stamp → FileState
learned was stamp = record { known = Some stamp; mark = was.state.mark }

-- below which number a file's pages are whole
abbrev pub full_below_of : List (List ℕ × FileRecord) → List ℕ → ℕ
full_below_of files file = option_map_or (λ r. r.full_below) (lookup (pointwise nat_eq file) files) 0

-- no page has more bytes, and those below their file's number have as many
abbrev pub AreFull : (List ℕ → ℕ) → List (PagePlace × List ℕ) → Type 0
AreFull below [] = ⊤
AreFull below (p ∷ pages) = (length p.1 ≤ 4096) × (p.0.index < below p.0.file → length p.1 ≡ 4096) × AreFull below pages

-- the pages of this file below a number are whole
abbrev pub FullBelow : List ℕ → ℕ → List (PagePlace × List ℕ) → Type 0
FullBelow file below [] = ⊤
FullBelow file below (p ∷ pages) = (pointwise nat_eq p.0.file file ≡ true → p.0.index < below → length p.1 ≡ 4096) × FullBelow file below pages
