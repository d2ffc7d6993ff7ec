-- What lines say of the objects of a server.
use Rattle.std.specs.Prelude.{ℕ, List, [], ◌∷◌, ◌++◌, length, Bool, true, false, not, ◌==◌, ◌&&◌, ◌||◌, nat_le, nat_lt, Option, Some, None, filter, if◌then◌else◌}
use Rattle.std.specs.Str.{bytes_eq}
use Rattle.std.specs.Ordering.{is_lt, nat_cmp}
use Rattle.std.specs.Cmp.Lexicographic.{slice_cmp}
use Rattle.nfs_types.specs.declared.attr.Attr.{Attr}
use Rattle.nfs_types.specs.declared.verf.Verf.{Verf}
use Rattle.world_model.specs.Server.{Listed, Holds, Bytes, Entries, Text, Object, Server}
use Rattle.trace_text.specs.Lists.{inserted}
use Rattle.trace_text.specs.Words.{◌>>=◌}

-- ---- servers

abbrev pub with_verf : Verf → Server → Server
with_verf verf s = record s { verf = verf }

-- an object under this handle, in place of the one that was there
abbrev pub with_object : List ℕ → Object → Server → Server
with_object handle object s = record s { object = λ h. if bytes_eq handle h then Some object else s.object h }

-- ---- what an object holds

abbrev pub gone_of : Option Object → Bool
gone_of None = false
gone_of (Some o) = o.gone

abbrev pub list_in : Holds → Option (List Listed)
list_in (Bytes now stable) = None
list_in (Entries entries) = Some entries
list_in (Text text) = None

-- the list of a directory
abbrev pub list_of : Option Object → Option (List Listed)
list_of None = None
list_of (Some o) = list_in o.holds

abbrev pub or_empty : Option (List Listed) → List Listed
or_empty None = []
or_empty (Some entries) = entries

abbrev pub is_nothing : List ℕ → Bool
is_nothing [] = true
is_nothing (b ∷ bytes) = false

-- a file of the size of its bytes, of which no more are stable
abbrev pub file_of : ℕ → List ℕ → List ℕ → Option Holds
file_of size now stable = if (length now == size) && nat_le (length stable) (length now) then Some (Bytes now stable) else None

-- a directory, with the list that it had
abbrev pub directory_of : List ℕ → List ℕ → Option Object → Option Holds
directory_of now stable was = if is_nothing now && is_nothing stable then Some (Entries (or_empty (list_of was))) else None

-- a link with its text, or an object of another kind
abbrev pub other_of : List ℕ → List ℕ → Option Holds
other_of now stable = if is_nothing stable then Some (Text now) else None

-- what an object of these attributes and bytes holds, by its kind (RFC 1813, section 2.5, ftype3)
abbrev pub holds_of : Attr → List ℕ → List ℕ → Option Object → Option Holds
holds_of attr now stable was =
    if attr.kind == 1 then file_of attr.size now stable else
    (if attr.kind == 2 then directory_of now stable was else other_of now stable)

-- ---- lists

-- in the order of cookies, and of names if these are equal
abbrev pub comes_before : Listed → Listed → Bool
comes_before entry other = nat_lt entry.cookie other.cookie || ((entry.cookie == other.cookie) && is_lt (slice_cmp nat_cmp entry.name other.name))

abbrev pub has_name : List ℕ → Listed → Bool
has_name name entry = bytes_eq entry.name name

-- the list without the entries of a name
abbrev pub without : List ℕ → List Listed → List Listed
without name entries = filter (λ e. not (has_name name e)) entries

-- an entry before the first that it comes before
abbrev pub placed : Listed → List Listed → List Listed
placed entry entries = inserted (comes_before entry) entry entries

-- the list with an entry in place of those of its name
abbrev pub listing : Listed → List Listed → List Listed
listing entry entries = placed entry (without entry.name entries)

-- the list without a name that it has
abbrev pub unlisted : List ℕ → List Listed → Option (List Listed)
unlisted name entries = if length (without name entries) == length entries then None else Some (without name entries)

-- ---- objects after a line

-- what is there is gone
abbrev pub gone_object_of : Option Object → Option Object
gone_object_of None = None
gone_object_of (Some o) = Some (record { attr = o.attr; gone = true; holds = o.holds })

-- a directory with another list
abbrev pub with_list : Object → List Listed → Object
with_list o entries = record { attr = o.attr; gone = o.gone; holds = Entries entries }

abbrev pub listed_in : Listed → Object → Option Object
listed_in entry o = list_in o.holds >>= λ entries. Some (with_list o (listing entry entries))

-- a directory with this entry, whose cookie isn't 0
abbrev pub listed_object_of : Listed → Option Object → Option Object
listed_object_of entry was = if entry.cookie == 0 then None else (was >>= listed_in entry)

abbrev pub unlisted_in : List ℕ → Object → Option Object
unlisted_in name o = list_in o.holds >>= λ entries. unlisted name entries >>= λ left. Some (with_list o left)

-- a directory without a name that it has
abbrev pub unlisted_object_of : List ℕ → Option Object → Option Object
unlisted_object_of name was = was >>= unlisted_in name
