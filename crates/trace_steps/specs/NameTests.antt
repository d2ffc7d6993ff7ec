-- The tests that decide whether an entry serves a call on a name.
use Rattle.std.specs.Prelude.{◌==◌, ◌&&◌, ◌||◌, not, ℕ, Bool, true, false, List, [], ◌∷◌, length, Option, Some, None, slice_get, if◌then◌else◌}
use Rattle.std.specs.Str.{bytes_eq}
use Rattle.nfs_types.specs.declared.attr.Attr.{Attr}
use Rattle.nfs_types.specs.declared.status.Status.{Status}
use Rattle.nfs_types.specs.declared.wcc.Wcc.{Wcc}
use Rattle.nfs_dir_calls.specs.declared.call.DirCall.{DirCall}
use Rattle.nfs_dir_calls.specs.declared.call.DirCall.TheVariants as dirs
use Rattle.nfs_dir_calls.specs.declared.create.Making.{Making}
use Rattle.nfs_dir_calls.specs.declared.create.Making.TheVariants as makings
use Rattle.world_model.specs.NameService.{kind_of, new_bytes}
use Rattle.trace_data.specs.declared.trace.Contents.{Contents}
use Rattle.trace_data.specs.declared.trace.Contents.TheVariants.{File, Directory, Other}
use Rattle.trace_data.specs.declared.trace.DirEntry.{DirEntry}
use Rattle.trace_data.specs.declared.trace.Object.{Object}
use Rattle.trace_data.specs.declared.trace.Trace.{Trace}
use Rattle.trace_rules.specs.Decided.{any_below}
use Rattle.trace_rules.specs.Keeping.{same_contents, is_other}
use Rattle.trace_steps.specs.MomentTests.{before, after, is_one, only}
use Rattle.trace_steps.specs.TurnTests.{turns, reads, is_sized, shows_attr, showed_attr, shows_wcc, showed_wcc}
use Rattle.trace_steps.specs.ListTests.{has_entry, lacks, is_bare, is_without}
use Rattle.trace_steps.specs.FileTests.{refuses}

-- ---- the list of a directory

abbrev pub entries_of : Contents → Option (List DirEntry)
entries_of (File now stable) = None
entries_of (Directory entries) = Some entries.items
entries_of (Other text) = None

abbrev pub list_of : Option Object → Option (List DirEntry)
list_of None = None
list_of (Some o) = entries_of o.contents

-- the list of a directory that is there
abbrev pub list_there : Option Object → Option (List DirEntry)
list_there None = None
list_there (Some o) = if o.gone then None else entries_of o.contents

abbrev pub in_list : (List DirEntry → Bool) → Option (List DirEntry) → Bool
in_list test None = false
in_list test (Some entries) = test entries

-- a directory that is there has the name for the object, before the entry
unfoldable pub had_name : Trace → ℕ → List ℕ → List ℕ → List ℕ → Bool
had_name t n d name h = in_list (λ es. has_entry name h es) (list_there (before t n d))

-- ---- a name that is looked up, and a link that is read

unfoldable pub looks_up : Trace → ℕ → List ℕ → List ℕ → List ℕ → Option Attr → Option Attr → Bool
looks_up t n d name object attr dir =
    had_name t n d name object && reads t n d && reads t n object && only (is_one d object object) t n && shows_attr t n object attr && shows_attr t n d dir

abbrev pub is_text : List ℕ → Contents → Contents → Bool
is_text text old new = is_other text old && same_contents old new

unfoldable pub reads_link : Trace → ℕ → List ℕ → Option Attr → List ℕ → Bool
reads_link t n f attr text = turns (is_text text) t n f && only (is_one f f f) t n && shows_attr t n f attr

-- ---- an object that comes to be

unfoldable pub are_new : Option ℕ → List ℕ → Bool
are_new size bytes = bytes_eq bytes (new_bytes size)

abbrev pub new_file_of : Option ℕ → Contents → Bool
new_file_of size (File now stable) = are_new size now && are_new size stable
new_file_of size (Directory entries) = false
new_file_of size (Other text) = false

abbrev pub is_made_file : Making → Contents → Bool
is_made_file (makings.Unchecked set) c = new_file_of set.size c
is_made_file (makings.Guarded set) c = new_file_of set.size c
is_made_file (makings.Exclusive verf) c = new_file_of None c

abbrev pub is_made_dir : Contents → Bool
is_made_dir (File now stable) = false
is_made_dir (Directory entries) = is_bare entries.items
is_made_dir (Other text) = false

-- what the object holds that a call makes
abbrev pub is_made : DirCall → Contents → Bool
is_made (dirs.Create d name making) c = is_made_file making c
is_made (dirs.MkDir d name set) c = is_made_dir c
is_made (dirs.SymLink d name set target) c = is_other target c
is_made (dirs.MkNod d name node) c = is_other [] c
is_made call c = false

-- the kind of the object that a call makes
abbrev pub made_kind : DirCall → ℕ
made_kind (dirs.Create d name making) = 1
made_kind (dirs.MkDir d name set) = 2
made_kind (dirs.SymLink d name set target) = 5
made_kind (dirs.MkNod d name node) = kind_of node
made_kind call = 0

abbrev pub is_new : DirCall → Option Object → Option Object → Bool
is_new call None None = false
is_new call None (Some new) = not new.gone && (new.attr.kind == made_kind call) && is_made call new.contents
is_new call (Some old) new = false

-- the object never was, and is there then as the call makes it
unfoldable pub begins : Trace → ℕ → DirCall → List ℕ → Bool
begins t n call h = is_new call (before t n h) (after t n h)

abbrev pub if_row : (DirEntry → Bool) → Option DirEntry → Bool
if_row test None = false
if_row test (Some row) = test row

-- the list without the entry at a place is the old one, which lacks the name
unfoldable pub enters_at : List ℕ → List DirEntry → List DirEntry → ℕ → DirEntry → Bool
enters_at name old new k row = bytes_eq row.name name && is_without k new old && lacks name old

unfoldable pub makes_row : Trace → ℕ → DirCall → List ℕ → List ℕ → List DirEntry → List DirEntry → ℕ → DirEntry → Bool
makes_row t n call d name old new k row = enters_at name old new k row && begins t n call row.object && only (is_one d row.object row.object) t n

unfoldable pub makes_at : Trace → ℕ → DirCall → List ℕ → List ℕ → List DirEntry → List DirEntry → ℕ → Bool
makes_at t n call d name old new k = if_row (λ row. makes_row t n call d name old new k row) (slice_get new k)

unfoldable pub makes_among : Trace → ℕ → DirCall → List ℕ → List ℕ → List DirEntry → List DirEntry → Bool
makes_among t n call d name old new = any_below (λ k. makes_at t n call d name old new k) (length new)

-- both are directories, and their lists pass the test
abbrev pub lists_with : (List DirEntry → List DirEntry → Bool) → Contents → Contents → Bool
lists_with test (File now stable) new = false
lists_with test (Directory old) (File now stable) = false
lists_with test (Directory old) (Directory new) = test old.items new.items
lists_with test (Directory old) (Other text) = false
lists_with test (Other text) new = false

unfoldable pub makes : Trace → ℕ → DirCall → List ℕ → List ℕ → Bool
makes t n call d name = turns (lists_with (λ old new. makes_among t n call d name old new)) t n d

-- ---- a file that is there

abbrev pub is_met : Option ℕ → Contents → Contents → Bool
is_met size (File now stable) new = is_sized size (File now stable) new
is_met size (Directory entries) new = false
is_met size (Other text) new = false

unfoldable pub meets_it : Trace → ℕ → List ℕ → List ℕ → Option ℕ → DirEntry → Bool
meets_it t n d name size e = bytes_eq e.name name && turns (is_met size) t n e.object && only (is_one d e.object e.object) t n

unfoldable pub meets_one : Trace → ℕ → List ℕ → List ℕ → Option ℕ → List DirEntry → Bool
meets_one t n d name size [] = false
meets_one t n d name size (e ∷ es) = meets_it t n d name size e || meets_one t n d name size es

-- a file that has the name already is given what is to be set
unfoldable pub meets : Trace → ℕ → List ℕ → List ℕ → Option ℕ → Bool
meets t n d name size = in_list (λ es. meets_one t n d name size es) (list_there (before t n d)) && reads t n d

-- ---- what a reply shows of the object that has the name then

abbrev pub shows_handle : Option (List ℕ) → List ℕ → Bool
shows_handle None h = true
shows_handle (Some found) h = bytes_eq found h

unfoldable pub is_shown : Trace → ℕ → List ℕ → Option (List ℕ) → Option Attr → DirEntry → Bool
is_shown t n name found attr e = bytes_eq e.name name && shows_handle found e.object && shows_attr t n e.object attr

unfoldable pub shows_one : Trace → ℕ → List ℕ → Option (List ℕ) → Option Attr → List DirEntry → Bool
shows_one t n name found attr [] = false
shows_one t n name found attr (e ∷ es) = is_shown t n name found attr e || shows_one t n name found attr es

unfoldable pub shows : Trace → ℕ → List ℕ → List ℕ → Option (List ℕ) → Option Attr → Bool
shows t n d name found attr = in_list (λ es. shows_one t n name found attr es) (list_there (after t n d))

-- ---- calls that make

abbrev pub may_meet : Trace → ℕ → List ℕ → List ℕ → Making → Bool
may_meet t n d name (makings.Unchecked set) = meets t n d name set.size
may_meet t n d name (makings.Guarded set) = false
may_meet t n d name (makings.Exclusive verf) = meets t n d name None

unfoldable pub creates : Trace → ℕ → DirCall → List ℕ → List ℕ → Making → Option (List ℕ) → Option Attr → Wcc → Bool
creates t n call d name making found attr wcc =
    (makes t n call d name || may_meet t n d name making) && shows t n d name found attr && shows_wcc t n d wcc

-- MKDIR, SYMLINK and MKNOD
unfoldable pub makes_other : Trace → ℕ → DirCall → List ℕ → List ℕ → Option (List ℕ) → Option Attr → Wcc → Bool
makes_other t n call d name found attr wcc = makes t n call d name && shows t n d name found attr && shows_wcc t n d wcc

-- ---- one more name

unfoldable pub links_row : List ℕ → List ℕ → List DirEntry → List DirEntry → ℕ → DirEntry → Bool
links_row f name old new k row = enters_at name old new k row && bytes_eq row.object f

unfoldable pub links_at : List ℕ → List ℕ → List DirEntry → List DirEntry → ℕ → Bool
links_at f name old new k = if_row (λ row. links_row f name old new k row) (slice_get new k)

unfoldable pub links_among : List ℕ → List ℕ → List DirEntry → List DirEntry → Bool
links_among f name old new = any_below (λ k. links_at f name old new k) (length new)

unfoldable pub links : Trace → ℕ → List ℕ → List ℕ → List ℕ → Option Attr → Wcc → Bool
links t n f d name attr wcc =
    turns (lists_with (λ old new. links_among f name old new)) t n d && reads t n f && only (is_one d f f) t n && shows_attr t n f attr
    && shows_wcc t n d wcc

-- a LINK that is refused
unfoldable pub refuses_link : Trace → ℕ → Status → List ℕ → Wcc → List ℕ → Option Attr → Bool
refuses_link t n status d wcc f attr = refuses t n status && showed_wcc t n d wcc && showed_attr t n f attr
