-- What other clients changed, by their calls and replies and by what the trace says of directories.
use Rattle.std.specs.Prelude.{◌≡◌, ◌<◌, ◌+◌, ◌⊎◌, ℕ, Bool, true, false, List, [], ◌∷◌, length, Option, Some, None, slice_get, if◌then◌else◌}
use Rattle.std.specs.Str.{bytes_eq}
use Rattle.nfs_dir_calls.specs.declared.call.DirCall.{DirCall}
use Rattle.nfs_dir_calls.specs.declared.call.DirCall.TheVariants as dirs
use Rattle.nfs_dir_calls.specs.declared.create.Making.{Making}
use Rattle.nfs_dir_calls.specs.declared.create.Making.TheVariants as makings
use Rattle.nfs_dir_calls.specs.declared.keeping.DirKept.{DirKept}
use Rattle.nfs_dir_calls.specs.declared.keeping.DirKept.TheVariants as dirs_kept
use Rattle.nfs_file_calls.specs.declared.call.FileCall.{FileCall}
use Rattle.nfs_file_calls.specs.declared.call.FileCall.TheVariants as files
use Rattle.nfs_file_calls.specs.declared.owned.FileKept.{FileKept}
use Rattle.nfs_file_calls.specs.declared.owned.FileKept.TheVariants as files_kept
use Rattle.world_model.specs.declared.entry.Entry.{Entry}
use Rattle.world_model.specs.declared.entry.Entry.TheVariants.{Foreign}
use Rattle.world_model.specs.declared.message.Call.{Call}
use Rattle.world_model.specs.declared.message.Call.TheVariants as calls
use Rattle.world_model.specs.declared.message.Reply.{Reply}
use Rattle.world_model.specs.declared.message.Reply.TheVariants as replies
use Rattle.world_model.specs.Entries.{At}
use Rattle.trace_data.specs.declared.trace.Contents.{Contents}
use Rattle.trace_data.specs.declared.trace.Contents.TheVariants.{File, Directory, Other}
use Rattle.trace_data.specs.declared.trace.DirEntry.{DirEntry}
use Rattle.trace_data.specs.declared.trace.Object.{Object}
use Rattle.trace_data.specs.declared.trace.Trace.{Trace}
use Rattle.trace_claims.specs.declared.changes.Made.{Made}
use Rattle.trace_claims.specs.declared.touched.Foreign as changed
use Rattle.trace_claims.specs.declared.touched.Reach.{Reach}
use Rattle.trace_claims.specs.declared.touched.Reach.TheVariants.{Range, Past}
use Rattle.trace_claims.specs.Objects.{object_of_trace}

-- ---- calls on files

abbrev pub set_kept : FileKept → Bool
set_kept (files_kept.SetAttr wcc) = true
set_kept kept = false

-- the reply says that a SETATTR succeeded
abbrev pub is_set : Reply → Bool
is_set (replies.File kept) = set_kept kept
is_set (replies.Dir kept) = false
is_set (replies.Mount reply) = false

abbrev pub cut_from : ℕ → List ℕ → Option ℕ → Option changed.Foreign
cut_from n f None = None
cut_from n f (Some size) = Some (record { place = n; file = f; reach = Past size })

abbrev pub range_of : (offset count : ℕ) → Reach
range_of offset count = Range offset (offset + count)

-- the change by a call on a file
abbrev pub file_change : ℕ → FileCall → Reply → Option changed.Foreign
file_change n (files.Write f offset how bytes) reply = Some (record { place = n; file = f; reach = Range offset (offset + length bytes) })
file_change n (files.SetAttr f set guard) reply = if is_set reply then cut_from n f set.size else None
file_change n call reply = None

-- ---- CREATE

abbrev pub made_kept : DirKept → Bool
made_kept (dirs_kept.Create f attr wcc) = true
made_kept kept = false

-- the reply says that a CREATE succeeded
abbrev pub is_made : Reply → Bool
is_made (replies.Dir kept) = made_kept kept
is_made (replies.File kept) = false
is_made (replies.Mount reply) = false

abbrev pub size_of : Making → Option ℕ
size_of (makings.Unchecked set) = set.size
size_of (makings.Guarded set) = None
size_of (makings.Exclusive verf) = None

abbrev pub made_as : (d name : List ℕ) → Option ℕ → Option Made
made_as d name None = None
made_as d name (Some size) = Some (record { dir = d; name = name; size = size })

-- what a CREATE made that set a size
abbrev pub made_by : DirCall → Reply → Option Made
made_by (dirs.Create d name making) reply = if is_made reply then made_as d name (size_of making) else None
made_by call reply = None

abbrev pub entries_of : Contents → List DirEntry
entries_of (File now stable) = []
entries_of (Directory entries) = entries.items
entries_of (Other text) = []

abbrev pub listing_of : Object → List DirEntry
listing_of o = if o.gone then [] else entries_of o.contents

abbrev pub listed_in : Option Object → List DirEntry
listed_in None = []
listed_in (Some o) = listing_of o

-- the entries of a directory that is there at a moment
unfoldable pub listed_at : Trace → ℕ → List ℕ → List DirEntry
listed_at t n d = listed_in (object_of_trace t n d)

-- the cut of the file of a directory's entry, if it has the name
abbrev pub cut_of : DirEntry → ℕ → Made → Option changed.Foreign
cut_of e n made = if bytes_eq e.name made.name then cut_from n e.object (Some made.size) else None

-- ---- the changes of an entry

pub data MakesChange (t : Trace) (n after : ℕ) (x : changed.Foreign) : Type 0 where
  by_file : (call : FileCall) (reply : Reply) → At t.entries.items n (Foreign (calls.File call) reply) → file_change n call reply ≡ Some x
      → MakesChange t n after x
  by_making : (call : DirCall) (reply : Reply) (made : Made) (j : ℕ) (e : DirEntry) → At t.entries.items n (Foreign (calls.Dir call) reply)
      → made_by call reply ≡ Some made
      → slice_get (listed_at t after made.dir) j ≡ Some e → cut_of e n made ≡ Some x → MakesChange t n after x

abbrev pub ChangesSo : Trace → ℕ → changed.Foreign → Type 0
ChangesSo t n x = MakesChange t n (n + 1) x

abbrev pub ListsChange : List changed.Foreign → changed.Foreign → Type 0
ListsChange cs x = (k : ℕ) × (slice_get cs k ≡ Some x)

abbrev pub FromEntry : Trace → ℕ → changed.Foreign → Type 0
FromEntry t k x = (n : ℕ) × (n < k) × ChangesSo t n x

-- the list has the changes of the first k entries, and those alone
pub record ChangesUpTo (t : Trace) (k : ℕ) (cs : List changed.Foreign) : Type 0 where
  pub each : (i : ℕ) (x : changed.Foreign) → slice_get cs i ≡ Some x → FromEntry t k x
  pub every : (n : ℕ) (x : changed.Foreign) → n < k → ChangesSo t n x → ListsChange cs x

-- ---- the list as it is made

abbrev pub change_list : Option changed.Foreign → List changed.Foreign
change_list None = []
change_list (Some x) = x ∷ []

-- a list with these changes more
pub record Adds (P : changed.Foreign → Type 0) (old new : List changed.Foreign) : Type 0 where
  pub before : (i : ℕ) (x : changed.Foreign) → slice_get old i ≡ Some x → slice_get new i ≡ Some x
  pub each : (i : ℕ) (x : changed.Foreign) → slice_get new i ≡ Some x → (slice_get old i ≡ Some x) ⊎ P x
  pub every : (x : changed.Foreign) → P x → ListsChange new x

abbrev pub NamedCut : List DirEntry → ℕ → Made → ℕ → changed.Foreign → Type 0
NamedCut listed n made k x = (j : ℕ) × (e : DirEntry) × (j < k) × (slice_get listed j ≡ Some e) × (cut_of e n made ≡ Some x)

abbrev pub AddsNamed : List DirEntry → ℕ → Made → ℕ → (old new : List changed.Foreign) → Type 0
AddsNamed listed n made k old new = Adds (NamedCut listed n made k) old new

abbrev pub MadeCut : Trace → Option Made → (n after : ℕ) → changed.Foreign → Type 0
MadeCut t None n after x = ⊥
MadeCut t (Some made) n after x = NamedCut (listed_at t after made.dir) n made (length (listed_at t after made.dir)) x

abbrev pub AddsMade : Trace → Option Made → (n after : ℕ) → (old new : List changed.Foreign) → Type 0
AddsMade t made n after old new = Adds (MadeCut t made n after) old new

abbrev pub CallMakes : Trace → Call → Reply → (n after : ℕ) → changed.Foreign → Type 0
CallMakes t (calls.File call) reply n after x = file_change n call reply ≡ Some x
CallMakes t (calls.Dir call) reply n after x = MadeCut t (made_by call reply) n after x
CallMakes t (calls.Mount call) reply n after x = ⊥

abbrev pub AddsOfCall : Trace → Call → Reply → (n after : ℕ) → (old new : List changed.Foreign) → Type 0
AddsOfCall t call reply n after old new = Adds (CallMakes t call reply n after) old new

pub record EntryMakes (t : Trace) (e : Entry) (n after : ℕ) (x : changed.Foreign) : Type 0 where
  pub call : Call
  pub reply : Reply
  pub is : e ≡ Foreign call reply
  pub makes : CallMakes t call reply n after x

abbrev pub AddsChanges : Trace → Entry → (n after : ℕ) → (old new : List changed.Foreign) → Type 0
AddsChanges t e n after old new = Adds (EntryMakes t e n after) old new
