-- What a server may answer with status 0 to a call on a name, and what the call changes (RFC 1813, sections 3.3.3 to
-- 3.3.15). If several outcomes are left, the server may choose.
use Rattle.std.specs.Prelude.{◌≡◌, ◌≢◌, ◌⊎◌, ℕ, false, List, [], Option, Some, None, replicate, ⊤}
use Rattle.nfs_types.specs.declared.attr.Attr.{Attr}
use Rattle.nfs_types.specs.declared.set_attr.SetAttr.{SetAttr}
use Rattle.nfs_types.specs.declared.set_attr.SetTime.TheVariants.{Keep}
use Rattle.nfs_dir_calls.specs.declared.create.Making.{Making}
use Rattle.nfs_dir_calls.specs.declared.create.Making.TheVariants as makings
use Rattle.nfs_dir_calls.specs.declared.mknod.Node.{Node}
use Rattle.nfs_dir_calls.specs.declared.mknod.Node.TheVariants as nodes
use Rattle.world_model.specs.Server.{Listed, Holds, Bytes, Entries, Text, Object, Server, Lists, HasName}
use Rattle.world_model.specs.Steps.{Only, Turns, Reads, Looks, TrueOf}
use Rattle.world_model.specs.FileService.{HoldsSized}
use Rattle.world_model.specs.Names.{Enters, Leaves, Clears, SameButParent, IsBare, Loses}

-- LOOKUP, section 3.3.3
pub record LooksUp (s t : Server) (d name found : List ℕ) (attr dir : Option Attr) : Type 0 where
  pub named : HasName s d name found
  pub reads : Reads s t d
  pub only : Only (λ h. (h ≡ d) ⊎ (h ≡ found)) s t
  pub object : Object
  pub there : s.object found ≡ Some object
  pub turns : Turns s t found object object.holds
  pub shows : TrueOf t found attr
  pub shows_dir : TrueOf t d dir

-- READLINK, section 3.3.5
pub record ReadsLink (s t : Server) (f : List ℕ) (attr : Option Attr) (text : List ℕ) : Type 0 where
  pub looks : Looks s t f
  pub is : looks.reads.object.holds ≡ Text text
  pub shows : TrueOf t f attr

-- ---- names that enter

-- a directory's list becomes another one
pub record Relists (s t : Server) (d : List ℕ) (old new : List Listed) : Type 0 where
  pub dir : Object
  pub held : dir.holds ≡ Entries old
  pub turns : Turns s t d dir (Entries new)

-- an object that the server never had comes to be, of a kind, with that in it
pub record Begins (s t : Server) (h : List ℕ) (kind : ℕ) (holds : Holds) : Type 0 where
  pub never : s.object h ≡ None
  pub new : Object
  pub is : t.object h ≡ Some new
  pub there : new.gone ≡ false
  pub kind_is : new.attr.kind ≡ kind
  pub holds_is : new.holds ≡ holds

-- a file handle, if there is one, is that of the object
abbrev pub ShowsHandle : Option (List ℕ) → List ℕ → Type 0
ShowsHandle None object = ⊤
ShowsHandle (Some found) object = found ≡ object

-- a file handle in a reply is that of the object which has the name then, and attributes are that object's
pub record Shown (t : Server) (d name : List ℕ) (found : Option (List ℕ)) (attr : Option Attr) : Type 0 where
  pub object : List ℕ
  pub named : HasName t d name object
  pub handle : ShowsHandle found object
  pub attributes : TrueOf t object attr

-- A new object enters under the name. Its attributes are the server's choice: a directory's default access list, or its
-- setgid bit, may change the rights and owners that were asked for.
pub record Makes (s t : Server) (d name : List ℕ) (kind : ℕ) (holds : Holds) : Type 0 where
  pub object : List ℕ
  pub old : List Listed
  pub new : List Listed
  pub relists : Relists s t d old new
  pub enters : Enters name object old new
  pub begins : Begins s t object kind holds
  pub only : Only (λ h. (h ≡ d) ⊎ (h ≡ object)) s t

-- the bytes of a new file: none, or zeros up to the size that is set
abbrev pub new_bytes : Option ℕ → List ℕ
new_bytes None = []
new_bytes (Some size) = replicate size 0

abbrev pub new_file : Option ℕ → Holds
new_file size = Bytes (new_bytes size) (new_bytes size)

-- nothing is set
abbrev pub keeps_all : SetAttr
keeps_all = record { mode = None; uid = None; gid = None; size = None; atime = Keep; mtime = Keep }

-- a file that has the name already is only given what is to be set
pub record Meets (s t : Server) (d name : List ℕ) (set : SetAttr) : Type 0 where
  pub object : List ℕ
  pub named : HasName s d name object
  pub file : Object
  pub now : List ℕ
  pub stable : List ℕ
  pub held : file.holds ≡ Bytes now stable
  pub later : Holds
  pub sized : HoldsSized set.size file.holds later
  pub turns : Turns s t object file later
  pub reads : Reads s t d
  pub only : Only (λ h. (h ≡ d) ⊎ (h ≡ object)) s t

-- CREATE, section 3.3.8: UNCHECKED and EXCLUSIVE may meet a file that is there
abbrev pub Creates : Server → Server → List ℕ → List ℕ → Making → Type 0
Creates s t d name (makings.Unchecked set) = Makes s t d name 1 (new_file set.size) ⊎ Meets s t d name set
Creates s t d name (makings.Guarded set) = Makes s t d name 1 (new_file set.size)
Creates s t d name (makings.Exclusive verf) = Makes s t d name 1 (new_file None) ⊎ Meets s t d name keeps_all

-- MKDIR, section 3.3.9
pub record MakesDir (s t : Server) (d name : List ℕ) : Type 0 where
  pub own : List Listed
  pub bare : IsBare own
  pub makes : Makes s t d name 2 (Entries own)

-- SYMLINK, section 3.3.10
abbrev pub MakesLink : Server → Server → List ℕ → List ℕ → List ℕ → Type 0
MakesLink s t d name target = Makes s t d name 5 (Text target)

-- MKNOD, section 3.3.11
abbrev pub kind_of : Node → ℕ
kind_of (nodes.Device kind set major minor) = kind
kind_of (nodes.Pipe kind set) = kind
kind_of (nodes.Plain kind) = kind

abbrev pub MakesNode : Server → Server → List ℕ → List ℕ → Node → Type 0
MakesNode s t d name node = Makes s t d name (kind_of node) (Text [])

-- LINK, section 3.3.15: an object gets one more name
pub record Links (s t : Server) (f d name : List ℕ) : Type 0 where
  pub old : List Listed
  pub new : List Listed
  pub relists : Relists s t d old new
  pub enters : Enters name f old new
  pub reads : Reads s t f
  pub only : Only (λ h. (h ≡ d) ⊎ (h ≡ f)) s t

-- ---- names that leave

-- REMOVE and RMDIR, sections 3.3.12 and 3.3.13
pub record Removes (s t : Server) (d name : List ℕ) : Type 0 where
  pub object : List ℕ
  pub old : List Listed
  pub new : List Listed
  pub relists : Relists s t d old new
  pub leaves : Leaves name object old new
  pub loses : Loses s t object
  pub only : Only (λ h. (h ≡ d) ⊎ (h ≡ object)) s t

-- the object that moves holds what it held, or is a directory with another `..`
abbrev pub HoldsMoved : Holds → Holds → Type 0
HoldsMoved (Entries old) new = (entries : List Listed) × (new ≡ Entries entries) × SameButParent old entries
HoldsMoved old new = new ≡ old

-- the object under the new name before: it lost that name, and if there was none, nothing is said
abbrev pub Replaced : Server → Server → List Listed → List ℕ → List ℕ → Type 0
Replaced s t entries to h = (e : Listed) → Lists entries e → e.name ≡ to → e.object ≡ h → Loses s t h

-- the lists of a RENAME within one directory, and from one to another: the old name leaves, what had the new one is
-- replaced, and the new name enters
pub data Moves (s t : Server) (d from e to h : List ℕ) (target : List Listed) : Type 0 where
  within : (less clear new : List Listed) → d ≡ e → Leaves from h target less → Clears to less clear → Enters to h clear new → Relists s t d target new
      → Moves s t d from e to h target
  across : (old less clear new : List Listed) → d ≢ e → Leaves from h old less → Relists s t d old less → Clears to target clear → Enters to h clear new
      → Relists s t e target new → Moves s t d from e to h target

-- RENAME, section 3.3.14
pub record Renames (s t : Server) (d from e to : List ℕ) : Type 0 where
  pub object : List ℕ
  pub target : List Listed
  pub moves : Moves s t d from e to object target
  pub moved : Object
  pub later : Holds
  pub holds : HoldsMoved moved.holds later
  pub turns : Turns s t object moved later
  pub replaced : (h : List ℕ) → h ≢ object → Replaced s t target to h
  pub only : Only (λ h. (h ≡ d) ⊎ (h ≡ e) ⊎ (h ≡ object) ⊎ ((entry : Listed) × Lists target entry × (entry.name ≡ to) × (entry.object ≡ h))) s t

-- a RENAME whose two names are of one object may change nothing
pub record KeepsNames (s t : Server) (d from e to : List ℕ) : Type 0 where
  pub object : List ℕ
  pub named_from : HasName s d from object
  pub named_to : HasName s e to object
  pub reads_from : Reads s t d
  pub reads_to : Reads s t e
  pub only : Only (λ h. (h ≡ d) ⊎ (h ≡ e) ⊎ (h ≡ object)) s t
  pub reads : Reads s t object
