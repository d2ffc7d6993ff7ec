-- What a server holds: a write verifier, and objects by their file handles (RFC 1813, sections 1.7 and 4.8).
use Rattle.std.specs.Prelude.{◌≡◌, ◌≢◌, ◌≤◌, ℕ, Bool, false, List, length, All, Option, Some, slice_get}
use Rattle.nfs_types.specs.declared.attr.Attr.{Attr}
use Rattle.nfs_types.specs.declared.verf.Verf.{Verf}

-- an entry of a directory: a name, the file handle of the object that has it, and its cookie
pub record Listed : Type 0 where
  pub name : List ℕ
  pub object : List ℕ
  pub cookie : ℕ

-- What an object holds. A file: its bytes as they are now, and those that a restart leaves. A directory: its entries,
-- perhaps with `.` and `..` among them. Any other object: a text.
pub data Holds : Type 0 where
  Bytes : (now stable : List ℕ) → Holds
  Entries : (entries : List Listed) → Holds
  Text : (text : List ℕ) → Holds

-- An object stays what it is, also when it is gone: when its last name was removed.
pub record Object : Type 0 where
  pub attr : Attr
  pub gone : Bool
  pub holds : Holds

-- A server has no cache, no page, no queue and no xid.
pub record Server : Type 0 where
  pub verf : Verf
  pub object : List ℕ → Option Object

-- A file of kind 1 has the size of its bytes, and no more of them are stable; a directory of kind 2 has cookies of 1 or more.
pub data IsSound (o : Object) : Type 0 where
  file : (now stable : List ℕ) → o.holds ≡ Bytes now stable → o.attr.kind ≡ 1 → o.attr.size ≡ length now → length stable ≤ length now → IsSound o
  directory : (entries : List Listed) → o.holds ≡ Entries entries → o.attr.kind ≡ 2 → All (λ (e : Listed). 1 ≤ e.cookie) entries → IsSound o
  other : (text : List ℕ) → o.holds ≡ Text text → o.attr.kind ≢ 1 → o.attr.kind ≢ 2 → IsSound o

abbrev pub IsServer : Server → Type 0
IsServer s = (h : List ℕ) (o : Object) → s.object h ≡ Some o → IsSound o

-- the object is there, and not gone
pub record Has (s : Server) (h : List ℕ) (o : Object) : Type 0 where
  pub is : s.object h ≡ Some o
  pub there : o.gone ≡ false

-- a file is there, or was, with these bytes
pub record HasBytes (s : Server) (f : List ℕ) (now stable : List ℕ) : Type 0 where
  pub file : Object
  pub is : s.object f ≡ Some file
  pub holds : file.holds ≡ Bytes now stable

-- the entries hold this one
abbrev pub Lists : List Listed → Listed → Type 0
Lists entries e = (at : ℕ) × (slice_get entries at ≡ Some e)

-- A directory holds this name for the object h, also if the directory itself is gone: its list stays what it was.
pub record Names (s : Server) (d name h : List ℕ) : Type 0 where
  pub dir : Object
  pub entries : List Listed
  pub cookie : ℕ
  pub is : s.object d ≡ Some dir
  pub holds : dir.holds ≡ Entries entries
  pub listed : Lists entries (record { name = name; object = h; cookie = cookie })

-- a directory that is there holds this name for the object h
pub record HasName (s : Server) (d name h : List ℕ) : Type 0 where
  pub names : Names s d name h
  pub there : names.dir.gone ≡ false
