-- What names stand for, by directory and name. A name is believed while its directory keeps the stamp under which it was learnt.
use Rattle.std.specs.Prelude.{ℕ, Bool, not, ◌&&◌, nat_eq, if◌then◌else◌, List, [], ◌∷◌, ◌++◌, take, filter, Option, Some, None, is_some, option_and_then}
use Rattle.std.specs.Cmp.Lexicographic.{pointwise}
use Rattle.std.specs.Map.{lookup, remove_entry}
use Rattle.lru.specs.LruCache.{promoted}
use Rattle.nfs_types.specs.declared.wcc.Stamp.{Stamp}
use Rattle.nfs_types.specs.Stamps.{same_stamp}
use Rattle.name_cache.specs.declared.entry.Place.{Place}
use Rattle.name_cache.specs.declared.entry.KeptName.{KeptName}

-- the entries, the one that was used last in front
abbrev pub Entries : Type 0
Entries = List (Place × KeptName)

-- whether it is this name in this directory
abbrev pub is_place : List ℕ → List ℕ → Place → Bool
is_place dir name place = pointwise nat_eq dir place.dir && pointwise nat_eq name place.name

-- what is kept of a name in a directory
abbrev pub kept_of : List ℕ → List ℕ → Entries → Option KeptName
kept_of dir name entries = lookup (is_place dir name) entries

-- whether it was learnt under this stamp of its directory
abbrev pub has_stamp : Stamp → KeptName → Bool
has_stamp stamp kept = same_stamp kept.stamp stamp

-- what a name stands for in a directory of that stamp
abbrev pub looked : List ℕ → List ℕ → Stamp → Entries → Option (List ℕ)
looked dir name stamp entries =
    option_and_then (λ kept. if has_stamp stamp kept then Some kept.found else None) (kept_of dir name entries)

-- an entry that was answered goes to the front
abbrev pub after_look : List ℕ → List ℕ → Stamp → Entries → Entries
after_look dir name stamp entries =
    if is_some (looked dir name stamp entries) then promoted (is_place dir name) entries else entries

-- what was learnt goes to the front, in place of what was kept of that name, and at most 256 entries stay
abbrev pub learnt : List ℕ → List ℕ → Stamp → List ℕ → Entries → Entries
learnt dir name stamp found entries =
    take 256 ((record { dir = dir; name = name }, record { stamp = stamp; found = found }) ∷ remove_entry (is_place dir name) entries)

-- whether it is another directory's
abbrev pub is_of_other : List ℕ → Place × KeptName → Bool
is_of_other dir e = not (pointwise nat_eq e.0.dir dir)

-- the entries of other directories, in their order
abbrev pub without_dir : List ℕ → Entries → Entries
without_dir dir entries = filter (is_of_other dir) entries

-- the front entry goes, or behind the others if it is another directory's
abbrev pub turned : List ℕ → Entries → Entries
turned dir [] = []
turned dir (e ∷ entries) = if is_of_other dir e then entries ++ e ∷ [] else entries
