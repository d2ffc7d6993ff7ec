-- Which file an operation is of. A lane's slots hold what its opens found.
use Rattle.std.specs.Prelude.{◌≡◌, ◌<◌, ℕ, true, List, Option, Some, None}
use Rattle.nfs_types.specs.declared.attr.Attr.{Attr}
use Rattle.nfs_types.specs.declared.mode.Mode.{Mode}
use Rattle.nfs_types.specs.declared.wcc.Wcc.{Wcc}
use Rattle.nfs_dir_calls.specs.declared.call.DirCall.TheVariants as dirs
use Rattle.nfs_dir_calls.specs.declared.create.Making.{Making}
use Rattle.nfs_dir_calls.specs.declared.keeping.DirKept.TheVariants as found
use Rattle.nfs_file_calls.specs.declared.call.FileCall.TheVariants as files
use Rattle.world_model.specs.declared.answer.Answer.{Answer}
use Rattle.world_model.specs.declared.answer.Answer.TheVariants.{Done}
use Rattle.world_model.specs.declared.answer.Value.{Value}
use Rattle.world_model.specs.declared.entry.Entry.{Entry}
use Rattle.world_model.specs.declared.entry.Entry.TheVariants.{Began}
use Rattle.world_model.specs.declared.message.Call.{Call}
use Rattle.world_model.specs.declared.message.Call.TheVariants as calls
use Rattle.world_model.specs.declared.message.Reply.TheVariants as replies
use Rattle.world_model.specs.declared.op.Op.{Op}
use Rattle.world_model.specs.declared.op.Op.TheVariants as ops
use Rattle.world_model.specs.Entries.{At}
use Rattle.world_model.specs.Messages.{SpellsReply}
use Rattle.claims.specs.Modes.{Modes}
use Rattle.world_model.specs.Operations.{Ended, LastReply}

-- Which file an open has that is answered at the place y: the one whose attributes were asked for last; or, if an open
-- may go by attributes that are kept, the one that the last LOOKUP or CREATE gave.
pub data Finds (m : Modes) (h : List Entry) (y : ℕ) (f : List ℕ) : Type 0 where
  asked : LastReply h y (calls.File (files.GetAttr f)) → Finds m h y f
  looked_up : m.nocto ≡ true → (d name : List ℕ) (attr dir : Option Attr) (last : LastReply h y (calls.Dir (dirs.Lookup d name)))
      → SpellsReply last.xid (calls.Dir (dirs.Lookup d name)) (replies.Dir (found.Lookup f attr dir)) last.bytes → Finds m h y f
  made : m.nocto ≡ true → (d name : List ℕ) (making : Making) (attr : Option Attr) (wcc : Wcc) (last : LastReply h y (calls.Dir (dirs.Create d name making)))
      → SpellsReply last.xid (calls.Dir (dirs.Create d name making)) (replies.Dir (found.Create (Some f) attr wcc)) last.bytes → Finds m h y f

-- The open at the place x succeeded at the place y, of this file.
pub record Opens (m : Modes) (h : List Entry) (lane slot x y : ℕ) (f : List ℕ) : Type 0 where
  pub mode : Mode
  pub path : List (List ℕ)
  pub value : Value
  pub ended : Ended h lane x (ops.OpenFile slot mode path) y (Done value)
  pub finds : Finds m h y f

-- Before the place n the slot holds the open that began at the place x: no close of the slot was answered since.
pub record InSlot (m : Modes) (h : List Entry) (n lane slot x : ℕ) (f : List ℕ) : Type 0 where
  pub y : ℕ
  pub opens : Opens m h lane slot x y f
  pub before : y < n
  pub kept : (c k : ℕ) (answer : Answer) → Ended h lane c (ops.Close slot) k answer → y < k → k < n → ⊥

-- the slot that an operation works on
abbrev pub slot_of : Op → Option ℕ
slot_of (ops.Read slot offset count) = Some slot
slot_of (ops.Write slot offset bytes) = Some slot
slot_of (ops.Fill slot offset count byte) = Some slot
slot_of (ops.Sync slot) = Some slot
slot_of (ops.Close slot) = Some slot
slot_of (ops.Truncate slot size) = Some slot
slot_of op = None

-- The operation at the place x is of the file that its slot holds as it begins.
pub record IsOf (m : Modes) (h : List Entry) (x : ℕ) (op : Op) (f : List ℕ) : Type 0 where
  pub lane : ℕ
  pub line : ℕ
  pub slot : ℕ
  pub open_at : ℕ
  pub began : At h x (Began lane line op)
  pub works_on : slot_of op ≡ Some slot
  pub holds : InSlot m h x lane slot open_at f

-- a WRITE or COMMIT of the file
pub data NamesFile (f : List ℕ) (call : Call) : Type 0 where
  writes : (offset how : ℕ) (bytes : List ℕ) → call ≡ calls.File (files.Write f offset how bytes) → NamesFile f call
  commits : (offset count : ℕ) → call ≡ calls.File (files.Commit f offset count) → NamesFile f call

-- The put at the place x succeeded at the place y: of the file that its last WRITE or COMMIT names.
pub record PutsTo (h : List Entry) (x y : ℕ) (f : List ℕ) (offset : ℕ) (bytes : List ℕ) : Type 0 where
  pub lane : ℕ
  pub path : List (List ℕ)
  pub value : Value
  pub call : Call
  pub ended : Ended h lane x (ops.Put path offset bytes) y (Done value)
  pub names : NamesFile f call
  pub asked : LastReply h y call
