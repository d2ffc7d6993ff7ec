-- Which calls an operation asks for (RFC 1813, section 3.3).
use Rattle.std.specs.Prelude.{◌≡◌, ◌≢◌, ◌<◌, ◌⊎◌, ◌++◌, ℕ, true, List, [], ◌∷◌, length, All, AllPairs, Contains, sum_by, Option, Some, None}
use Rattle.nfs_types.specs.declared.attr.Attr.{Attr}
use Rattle.nfs_types.specs.declared.mode.Mode.{Mode}
use Rattle.nfs_types.specs.declared.mode.Mode.TheVariants as modes
use Rattle.nfs_types.specs.declared.set_attr.SetAttr.{SetAttr}
use Rattle.nfs_types.specs.declared.set_attr.SetTime.TheVariants.{Keep}
use Rattle.nfs_types.specs.declared.verf.Verf.{Verf}
use Rattle.nfs_types.specs.declared.wcc.Wcc.{Wcc}
use Rattle.nfs_dir_calls.specs.declared.call.DirCall.TheVariants as dirs
use Rattle.nfs_dir_calls.specs.declared.create.Making.TheVariants as makings
use Rattle.nfs_dir_calls.specs.declared.keeping.DirKept.TheVariants as found
use Rattle.nfs_dir_calls.specs.declared.plus_page.PlusRow.{PlusRow}
use Rattle.nfs_file_calls.specs.declared.call.FileCall.TheVariants as files
use Rattle.world_model.specs.declared.entry.Entry.{Entry}
use Rattle.world_model.specs.declared.entry.Entry.TheVariants.{Began}
use Rattle.world_model.specs.declared.message.Call.{Call}
use Rattle.world_model.specs.declared.message.Call.TheVariants as calls
use Rattle.world_model.specs.declared.message.Reply.{Reply}
use Rattle.world_model.specs.declared.message.Reply.TheVariants as replies
use Rattle.world_model.specs.declared.op.Op.{Op}
use Rattle.world_model.specs.declared.op.Op.TheVariants as ops
use Rattle.world_model.specs.Chains.{Chain, list_call}
use Rattle.world_model.specs.Entries.{At}
use Rattle.world_model.specs.Heard.{Asked, status_of}
use Rattle.claims.specs.Hidden.{IsHidden, HiddenAt}
use Rattle.world_model.specs.Leads.{Leads}
use Rattle.claims.specs.Pages.{InsidePages}
use Rattle.claims.specs.Paths.{paths_of, PlaceOf}
use Rattle.claims.specs.Pending.{Pending}
use Rattle.world_model.specs.Commits.{commit_call}
use Rattle.claims.specs.ReadTrue.{Within}
use Rattle.claims.specs.Slots.{InSlot, IsOf}
use Rattle.claims.specs.Terms.{Terms}
use Rattle.claims.specs.Touched.{RefusedWrite}

-- ---- arguments

-- to set the mode alone, and to set the size alone
abbrev pub only_mode : ℕ → SetAttr
only_mode mode = record { mode = Some mode; uid = None; gid = None; size = None; atime = Keep; mtime = Keep }

abbrev pub only_size : ℕ → SetAttr
only_size size = record { mode = None; uid = None; gid = None; size = Some size; atime = Keep; mtime = Keep }

-- LOOKUP of a name, RENAME within a directory
abbrev pub look_up : List ℕ → List ℕ → Call
look_up d name = calls.Dir (dirs.Lookup d name)

-- the reply to a LOOKUP: the object and what is shown of it and of the directory
abbrev pub looked_up : List ℕ → Option Attr → Option Attr → Reply
looked_up object attr dir = replies.Dir (found.Lookup object attr dir)

-- CREATE of a file, of mode 0644: UNCHECKED if an open may find the file, GUARDED if it has to make it
abbrev pub create_unchecked : List ℕ → List ℕ → Call
create_unchecked d name = calls.Dir (dirs.Create d name (makings.Unchecked (only_mode 420)))

abbrev pub create_guarded : List ℕ → List ℕ → Call
create_guarded d name = calls.Dir (dirs.Create d name (makings.Guarded (only_mode 420)))

-- an open of this mode makes a file by that call
pub data MakesFile (mode : Mode) (d name : List ℕ) (call : Call) : Type 0 where
  unchecked : mode ≡ modes.C → call ≡ create_unchecked d name → MakesFile mode d name call
  guarded : mode ≡ modes.X → call ≡ create_guarded d name → MakesFile mode d name call

-- ---- which objects an operation finds

-- the paths of which the object is found: of the others the directory alone
abbrev pub found_by : Op → List (List (List ℕ))
found_by (ops.MakeDir path) = []
found_by (ops.RemoveDir path) = []
found_by (ops.SymLink path target) = []
found_by (ops.Rename from to) = []
found_by (ops.Link from to) = from ∷ []
found_by op = paths_of op

-- an open, or a put, which opens its file too
pub data Opening (op : Op) (path : List (List ℕ)) : Type 0 where
  opens : (slot : ℕ) (mode : Mode) → op ≡ ops.OpenFile slot mode path → Opening op path
  put : (offset : ℕ) (bytes : List ℕ) → op ≡ ops.Put path offset bytes → Opening op path

-- a sync or a close of a slot, or a put, makes stable what is pending of this file
pub data Stabilizes (terms : Terms) (h : List Entry) (x n : ℕ) (op : Op) (f : List ℕ) : Type 0 where
  sync : (slot : ℕ) → op ≡ ops.Sync slot → IsOf terms.modes h x op f → Stabilizes terms h x n op f
  close : (slot : ℕ) → op ≡ ops.Close slot → IsOf terms.modes h x op f → Stabilizes terms h x n op f
  put : (path : List (List ℕ)) (offset : ℕ) (bytes : List ℕ) → op ≡ ops.Put path offset bytes → Leads terms.origin h n path f → Stabilizes terms h x n op f

-- ---- want of room

-- how many bytes an operation is to write
abbrev pub count_of : Op → ℕ
count_of (ops.Write slot offset bytes) = length bytes
count_of (ops.Fill slot offset count byte) = count
count_of (ops.Put path offset bytes) = length bytes
count_of op = 0

-- a write, fill or put
pub data IsWriter (op : Op) : Type 0 where
  write : (slot offset : ℕ) (bytes : List ℕ) → op ≡ ops.Write slot offset bytes → IsWriter op
  fill : (slot offset count byte : ℕ) → op ≡ ops.Fill slot offset count byte → IsWriter op
  put : (path : List (List ℕ)) (offset : ℕ) (bytes : List ℕ) → op ≡ ops.Put path offset bytes → IsWriter op

-- an operation, and the place where it began
abbrev pub Placed : Type 0
Placed = ℕ × Op

-- they began at different places
abbrev pub AreDifferent : List Placed → Type 0
AreDifferent some = AllPairs (λ (a b : Placed). a.0 ≢ b.0) some

-- the operation began at its place
abbrev pub HasBegan : List Entry → Placed → Type 0
HasBegan h o = (lane : ℕ) × (line : ℕ) × At h o.0 (Began lane line o.1)

-- the most bytes that may be dirty at once
abbrev pub most_pending : ℕ
most_pending = 4194304

-- a writer that began before the place n, and is the one at the place x or isn't a refused write or fill
pub record TakesRoom (h : List Entry) (x n : ℕ) (o : Placed) : Type 0 where
  pub began : HasBegan h o
  pub writes : IsWriter o.1
  pub before : o.0 < n
  pub counts : (o.0 ≡ x) ⊎ (RefusedWrite h o.0 → ⊥)

-- The write, fill or put at the place x may want room: together those that began before the place n, but for refused ones,
-- have more bytes than may be dirty at once.
pub record NeedsRoom (h : List Entry) (x n : ℕ) : Type 0 where
  pub writers : List Placed
  pub different : AreDifferent writers
  pub each : All (TakesRoom h x n) writers
  pub full : most_pending < sum_by (λ (o : Placed). count_of o.1) writers

-- a byte of the file was pending at a moment from one place to another
pub record HadPending (terms : Terms) (h : List Entry) (from to : ℕ) (f : List ℕ) : Type 0 where
  pub i : ℕ
  pub v : ℕ
  pub n : ℕ
  pub moment : Within from to n
  pub pending : Pending terms.modes terms.origin h f i n v

-- ---- the last close, and a remove of a file that is open

-- at a moment from one place to another a slot held the file
pub record HeldOpen (terms : Terms) (h : List Entry) (from to : ℕ) (f : List ℕ) : Type 0 where
  pub lane : ℕ
  pub slot : ℕ
  pub open_at : ℕ
  pub n : ℕ
  pub moment : Within from to n
  pub holds : InSlot terms.modes h n lane slot open_at f

-- at a moment from one place to another no slot but this one held the file
pub record HeldAlone (terms : Terms) (h : List Entry) (from to lane slot : ℕ) (f : List ℕ) : Type 0 where
  pub n : ℕ
  pub moment : Within from to n
  pub alone : (other its_slot open_at : ℕ) → InSlot terms.modes h n other its_slot open_at f → (other ≡ lane) × (its_slot ≡ slot)

-- A LOOKUP of the last name gave a file, which a slot held while the remove at the place x was under way. A LOOKUP of the
-- hidden name found nothing: NFS3ERR_NOENT, 2.
pub record MayHide (terms : Terms) (h : List Entry) (x n : ℕ) (d last name : List ℕ) : Type 0 where
  pub f : List ℕ
  pub attr : Option Attr
  pub dir : Option Attr
  pub reply : Reply
  pub gave : Asked h x n (look_up d last) (looked_up f attr dir)
  pub held : HeldOpen terms h x n f
  pub free : Asked h x n (look_up d name) reply
  pub none : status_of reply ≡ 2

-- ---- calls

-- The call that does what the operation is for: SETATTR of the size alone and without a guard, ACCESS, READLINK, MKDIR of
-- mode 0755, SYMLINK of mode 0777, RMDIR, RENAME, LINK; and of a remove REMOVE, or RENAME to a hidden name in the same
-- directory.
pub data Acts (terms : Terms) (h : List Entry) (x n : ℕ) (op : Op) (call : Call) : Type 0 where
  cuts : (slot size : ℕ) (f : List ℕ) → op ≡ ops.Truncate slot size → IsOf terms.modes h x op f → call ≡ calls.File (files.SetAttr f (only_size size) None)
      → Acts terms h x n op call
  accesses : (path : List (List ℕ)) (bits : ℕ) (f : List ℕ) → op ≡ ops.Access path bits → Leads terms.origin h n path f
      → call ≡ calls.File (files.Access f bits) → Acts terms h x n op call
  reads_link : (path : List (List ℕ)) (f : List ℕ) → op ≡ ops.ReadLink path → Leads terms.origin h n path f → call ≡ calls.Dir (dirs.ReadLink f)
      → Acts terms h x n op call
  makes_dir : (path : List (List ℕ)) (d name : List ℕ) → op ≡ ops.MakeDir path → PlaceOf terms.origin h n path d name
      → call ≡ calls.Dir (dirs.MkDir d name (only_mode 493)) → Acts terms h x n op call
  makes_link : (path : List (List ℕ)) (target d name : List ℕ) → op ≡ ops.SymLink path target → PlaceOf terms.origin h n path d name
      → call ≡ calls.Dir (dirs.SymLink d name (only_mode 511) target) → Acts terms h x n op call
  removes_dir : (path : List (List ℕ)) (d name : List ℕ) → op ≡ ops.RemoveDir path → PlaceOf terms.origin h n path d name
      → call ≡ calls.Dir (dirs.RmDir d name) → Acts terms h x n op call
  renames : (from to : List (List ℕ)) (d name to_d to_name : List ℕ) → op ≡ ops.Rename from to → PlaceOf terms.origin h n from d name
      → PlaceOf terms.origin h n to to_d to_name
      → call ≡ calls.Dir (dirs.Rename d name to_d to_name) → Acts terms h x n op call
  links : (from to : List (List ℕ)) (f d name : List ℕ) → op ≡ ops.Link from to → Leads terms.origin h n from f → PlaceOf terms.origin h n to d name
      → call ≡ calls.Dir (dirs.Link f d name) → Acts terms h x n op call
  removes : (path : List (List ℕ)) (d name : List ℕ) → op ≡ ops.Remove path → PlaceOf terms.origin h n path d name → call ≡ calls.Dir (dirs.Remove d name)
      → Acts terms h x n op call
  hides : (path : List (List ℕ)) (d last name : List ℕ) → op ≡ ops.Remove path → PlaceOf terms.origin h n path d last → IsHidden name
      → MayHide terms h x n d last name → call ≡ calls.Dir (dirs.Rename d last d name) → Acts terms h x n op call

-- The REMOVE of a last close: of the place where its file was hidden.
pub record RemovesHidden (terms : Terms) (h : List Entry) (x n : ℕ) (op : Op) (call : Call) : Type 0 where
  pub slot : ℕ
  pub f : List ℕ
  pub d : List ℕ
  pub name : List ℕ
  pub is : op ≡ ops.Close slot
  pub of : IsOf terms.modes h x op f
  pub hidden : HiddenAt terms.origin h n f d name
  pub alone : HeldAlone terms h x n of.lane of.slot f
  pub removes : call ≡ calls.Dir (dirs.Remove d name)

-- The operation that began at the place x asks for the call before the place n.
pub data Asks (terms : Terms) (h : List Entry) (x n : ℕ) (op : Op) (call : Call) : Type 0 where
  -- LOOKUP of a name of a path that isn't the last, in the directory to which the names before it lead
  walks : (path earlier later : List (List ℕ)) (name next d : List ℕ) → Contains (paths_of op) path → path ≡ earlier ++ name ∷ next ∷ later
      → Leads terms.origin h n earlier d → call ≡ look_up d name → Asks terms h x n op call
  -- LOOKUP of the last name, if the operation finds its object
  finds : (path : List (List ℕ)) (d name : List ℕ) → Contains (found_by op) path → PlaceOf terms.origin h n path d name → call ≡ look_up d name
      → Asks terms h x n op call
  -- of a remove, LOOKUP of hidden names in the directory of its path
  looks_for_hidden : (path : List (List ℕ)) (d last name : List ℕ) → op ≡ ops.Remove path → PlaceOf terms.origin h n path d last → IsHidden name
      → call ≡ look_up d name → Asks terms h x n op call
  -- CREATE of the last name: at once if the open has to make the file, else after a LOOKUP of it found nothing
  creates : (slot : ℕ) (path : List (List ℕ)) (d name : List ℕ) → op ≡ ops.OpenFile slot modes.X path → PlaceOf terms.origin h n path d name
      → call ≡ create_guarded d name → Asks terms h x n op call
  creates_after : (slot : ℕ) (path : List (List ℕ)) (d name : List ℕ) (reply : Reply) → op ≡ ops.OpenFile slot modes.C path
      → PlaceOf terms.origin h n path d name → Asked h x n (look_up d name) reply → status_of reply ≡ 2
      → call ≡ create_unchecked d name → Asks terms h x n op call
  -- GETATTR of the file that an open or put found, of the one that CREATE gave, and of the object of a stat
  opens : (path : List (List ℕ)) (f : List ℕ) → Opening op path → Leads terms.origin h n path f → call ≡ calls.File (files.GetAttr f) → Asks terms h x n op call
  opens_made : (slot : ℕ) (mode : Mode) (path : List (List ℕ)) (d name f : List ℕ) (making : Call) (attr : Option Attr) (wcc : Wcc)
      → op ≡ ops.OpenFile slot mode path → PlaceOf terms.origin h n path d name → MakesFile mode d name making
      → Asked h x n making (replies.Dir (found.Create (Some f) attr wcc)) → call ≡ calls.File (files.GetAttr f) → Asks terms h x n op call
  shows : (path : List (List ℕ)) (f : List ℕ) → op ≡ ops.Stat path → Leads terms.origin h n path f → call ≡ calls.File (files.GetAttr f)
      → Asks terms h x n op call
  -- READ of the slot's file inside the pages that meet the range; and in a session that asks anew, GETATTR of it
  reads : (slot offset count at size : ℕ) (f : List ℕ) → op ≡ ops.Read slot offset count → IsOf terms.modes h x op f → InsidePages offset count at size
      → call ≡ calls.File (files.Read f at size) → Asks terms h x n op call
  asks_anew : (slot offset count : ℕ) (f : List ℕ) → op ≡ ops.Read slot offset count → terms.modes.noac ≡ true → IsOf terms.modes h x op f
      → call ≡ calls.File (files.GetAttr f) → Asks terms h x n op call
  -- WRITE and COMMIT of the file of a sync, close or put
  writes : (f bytes : List ℕ) (at how : ℕ) → Stabilizes terms h x n op f → call ≡ calls.File (files.Write f at how bytes) → Asks terms h x n op call
  commits : (f : List ℕ) → Stabilizes terms h x n op f → call ≡ commit_call f → Asks terms h x n op call
  -- for room, WRITE and COMMIT of a file of which bytes were pending
  writes_for_room : (f bytes : List ℕ) (at how : ℕ) → IsWriter op → HadPending terms h x n f → NeedsRoom h x n
      → call ≡ calls.File (files.Write f at how bytes) → Asks terms h x n op call
  commits_for_room : (f : List ℕ) → IsWriter op → HadPending terms h x n f → NeedsRoom h x n → call ≡ commit_call f → Asks terms h x n op call
  -- REMOVE of a last close
  removes_hidden : RemovesHidden terms h x n op call → Asks terms h x n op call
  -- READDIRPLUS of a directory: of its first page, or of the one after those that came
  lists : (path : List (List ℕ)) (d : List ℕ) (rows : List PlusRow) (cookie : ℕ) (verf : Verf) → op ≡ ops.List path → Leads terms.origin h n path d
      → Chain h x n d rows cookie verf → call ≡ list_call d cookie verf → Asks terms h x n op call
  -- the call that does it
  acts : Acts terms h x n op call → Asks terms h x n op call
