-- The tests that decide whether an entry serves READDIR or READDIRPLUS.
use Rattle.std.specs.Prelude.{◌==◌, ◌&&◌, ◌||◌, nat_le, ℕ, Bool, true, false, List, [], ◌∷◌, length, Option}
use Rattle.std.specs.Str.{bytes_eq}
use Rattle.nfs_types.specs.declared.attr.Attr.{Attr}
use Rattle.nfs_dir_calls.specs.declared.plus_page.PlusRow.{PlusRow}
use Rattle.nfs_dir_calls.specs.declared.dir_page.DirRow.{DirRow}
use Rattle.trace_data.specs.declared.trace.Contents.{Contents}
use Rattle.trace_data.specs.declared.trace.Contents.TheVariants.{File, Directory, Other}
use Rattle.trace_data.specs.declared.trace.DirEntry.{DirEntry}
use Rattle.trace_data.specs.declared.trace.Trace.{Trace}
use Rattle.trace_rules.specs.Keeping.{same_contents}
use Rattle.trace_steps.specs.MomentTests.{is_one, only}
use Rattle.trace_steps.specs.TurnTests.{turns, shows_attr}
use Rattle.trace_steps.specs.ListTests.{has_row}
use Rattle.trace_steps.specs.NameTests.{shows_handle}

-- ---- rows

unfoldable pub all_rows : List DirEntry → List DirRow → Bool
all_rows entries [] = true
all_rows entries (row ∷ rows) = has_row row.name row.cookie entries && all_rows entries rows

-- an entry is what a row of READDIRPLUS shows
unfoldable pub is_plus_of : Trace → ℕ → PlusRow → DirEntry → Bool
is_plus_of t n row e = bytes_eq e.name row.name && (e.cookie == row.cookie) && shows_handle row.found e.object && shows_attr t n e.object row.attr

unfoldable pub has_plus : Trace → ℕ → PlusRow → List DirEntry → Bool
has_plus t n row [] = false
has_plus t n row (e ∷ es) = is_plus_of t n row e || has_plus t n row es

unfoldable pub all_plus : Trace → ℕ → List DirEntry → List PlusRow → Bool
all_plus t n entries [] = true
all_plus t n entries (row ∷ rows) = has_plus t n row entries && all_plus t n entries rows

-- ---- a directory that is read

-- the list of a directory, which stays, passes the test
abbrev pub lists_so : (List DirEntry → Bool) → Contents → Contents → Bool
lists_so test (File now stable) new = false
lists_so test (Directory entries) new = test entries.items && same_contents (Directory entries) new
lists_so test (Other text) new = false

unfoldable pub lists_names : Trace → ℕ → List ℕ → Option Attr → List DirRow → Bool → Bool
lists_names t n d attr rows eof =
    turns (lists_so (λ es. all_rows es rows)) t n d && only (is_one d d d) t n && shows_attr t n d attr && (nat_le 1 (length rows) || eof)

unfoldable pub lists_objects : Trace → ℕ → List ℕ → Option Attr → List PlusRow → Bool → Bool
lists_objects t n d attr rows eof =
    turns (lists_so (λ es. all_plus t n es rows)) t n d && only (is_one d d d) t n && shows_attr t n d attr && (nat_le 1 (length rows) || eof)
