-- The tests on the list of a directory.
use Rattle.std.specs.Prelude.{◌==◌, ◌&&◌, ◌||◌, not, ℕ, suc, Bool, true, false, List, [], ◌∷◌, ◌++◌, take, drop}
use Rattle.std.specs.Str.{bytes_eq}
use Rattle.world_model.specs.Names.{own_name, parent_name}
use Rattle.trace_data.specs.declared.trace.DirEntry.{DirEntry}
use Rattle.trace_rules.specs.Freshness.{same_entry, same_entries}

abbrev pub is_entry : List ℕ → List ℕ → DirEntry → Bool
is_entry name h e = bytes_eq e.name name && bytes_eq e.object h

-- the list has the name for the object
unfoldable pub has_entry : List ℕ → List ℕ → List DirEntry → Bool
has_entry name h [] = false
has_entry name h (e ∷ es) = is_entry name h e || has_entry name h es

-- the list has the name with the cookie
unfoldable pub has_row : List ℕ → ℕ → List DirEntry → Bool
has_row name cookie [] = false
has_row name cookie (e ∷ es) = (bytes_eq e.name name && (e.cookie == cookie)) || has_row name cookie es

-- the list doesn't have the name
unfoldable pub lacks : List ℕ → List DirEntry → Bool
lacks name [] = true
lacks name (e ∷ es) = not (bytes_eq e.name name) && lacks name es

-- `.` or `..`
abbrev pub is_dotted : List ℕ → Bool
is_dotted name = bytes_eq name own_name || bytes_eq name parent_name

-- each name is `.` or `..`
unfoldable pub is_bare : List DirEntry → Bool
is_bare [] = true
is_bare (e ∷ es) = is_dotted e.name && is_bare es

-- the list has a name for the object, other than `.` and `..`
unfoldable pub names_it : List ℕ → List DirEntry → Bool
names_it h [] = false
names_it h (e ∷ es) = (bytes_eq e.object h && not (is_dotted e.name)) || names_it h es

-- the list without the entry at a place
abbrev pub without : ℕ → List DirEntry → List DirEntry
without k es = take k es ++ drop (suc k) es

-- the second list is the first without the entry at a place
unfoldable pub is_without : ℕ → List DirEntry → List DirEntry → Bool
is_without k long short = same_entries short (without k long)

-- the list has this very entry
unfoldable pub has_this : DirEntry → List DirEntry → Bool
has_this x [] = false
has_this x (e ∷ es) = same_entry e x || has_this x es

abbrev pub is_parent : List ℕ → Bool
is_parent name = bytes_eq name parent_name

-- each entry of the first list but `..` stands in the second
unfoldable pub all_in : List DirEntry → List DirEntry → Bool
all_in [] other = true
all_in (e ∷ es) other = (is_parent e.name || has_this e other) && all_in es other
