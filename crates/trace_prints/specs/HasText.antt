-- Which traces have a text: each mark of them is one that a line can say.
use Rattle.std.specs.Prelude.{◌≡◌, ◌≢◌, ◌<◌, ◌≤◌, ◌^◌, ℕ, suc, List, [], ◌∷◌, length, true, false, Option, Some, None, Vec, map, slice_get}
use Rattle.export_fs.specs.Spelling.{HasSpellingCall, HasSpellingReply}
use Rattle.export_serve.specs.Spelling.{reply_bytes}
use Rattle.std.specs.declared.alloc.Global.{Global}
use Rattle.std.specs.Str.{bytes_eq}
use Rattle.hex.specs.Hex.{IsBytes}
use Rattle.nfs_script.specs.Asked.{IsAsked}
use Rattle.nfs_types.specs.declared.attr.Attr.{Attr}
use Rattle.nfs_types.specs.declared.verf.Verf.{Verf}
use Rattle.nfs_types.specs.Names.{IsName}
use Rattle.script_text.specs.Paths.{is_path_name, is_target}
use Rattle.trace_calls.specs.Sending.{call_bytes}
use Rattle.trace_data.specs.declared.trace.Contents.{Contents}
use Rattle.trace_data.specs.declared.trace.Contents.TheVariants as holds
use Rattle.trace_data.specs.declared.trace.DirEntry.{DirEntry}
use Rattle.trace_data.specs.declared.trace.Updated.{Updated}
use Rattle.trace_data.specs.declared.trace.Object.{Object}
use Rattle.trace_data.specs.declared.trace.Trace.{Trace}
use Rattle.trace_data.specs.Histories.{listed_of, server_at, verf_at}
use Rattle.world_model.specs.Messages.{SpellsCall, SpellsReply}
use Rattle.world_model.specs.Server.{Listed}
use Rattle.world_model.specs.declared.answer.Answer.{Answer}
use Rattle.world_model.specs.declared.answer.Answer.TheVariants as answers
use Rattle.world_model.specs.declared.answer.Fault.{Fault}
use Rattle.world_model.specs.declared.answer.Fault.TheVariants as faults
use Rattle.world_model.specs.declared.answer.Value.{Value}
use Rattle.world_model.specs.declared.answer.Value.TheVariants as values
use Rattle.world_model.specs.declared.entry.Entry.{Entry}
use Rattle.world_model.specs.declared.entry.Entry.TheVariants as entries
use Rattle.world_model.specs.declared.message.Call.{Call}
use Rattle.world_model.specs.declared.message.Reply.{Reply}
use Rattle.world_model.specs.declared.op.Op.{Op}
use Rattle.world_model.specs.declared.op.Op.TheVariants as ops
use Rattle.trace_text.specs.EntryLines.{last_shape}
use Rattle.trace_text.specs.Objects.{comes_before}
use Rattle.trace_text.specs.Texts.{entries_in, entries_of, firsts, object_before, objects_in, was_gone}
use Rattle.trace_text.specs.Shapes.{AnswerShape}
use Rattle.trace_text.specs.Shapes as shapes

-- ---- words

-- a name that stands in a path: 1 to 255 bytes without `/` and zero, neither `.` nor `..`
pub record IsPathName (name : List ℕ) : Type 0 where
  pub bytes : IsBytes name
  pub is : is_path_name name ≡ true

abbrev pub ArePathNames : List (List ℕ) → Type 0
ArePathNames [] = Unit {0}
ArePathNames (name ∷ names) = IsPathName name × ArePathNames names

-- a file handle
pub record IsHandleWord (handle : List ℕ) : Type 0 where
  pub bytes : IsBytes handle
  pub few : length handle ≤ 64

-- a link leads to bytes without a zero
pub record IsTargetWord (target : List ℕ) : Type 0 where
  pub bytes : IsBytes target
  pub is : is_target target ≡ true

-- ---- operations

-- names and bytes are such as a command can show
abbrev pub AreSaid : Op → Type 0
AreSaid (ops.OpenFile slot mode path) = ArePathNames path
AreSaid (ops.Read slot offset count) = Unit {0}
AreSaid (ops.Write slot offset bytes) = IsBytes bytes
AreSaid (ops.Fill slot offset count byte) = byte < 256
AreSaid (ops.Put path offset bytes) = ArePathNames path × IsBytes bytes
AreSaid (ops.Sync slot) = Unit {0}
AreSaid (ops.Close slot) = Unit {0}
AreSaid (ops.Truncate slot size) = Unit {0}
AreSaid (ops.Stat path) = ArePathNames path
AreSaid (ops.Access path bits) = ArePathNames path
AreSaid (ops.MakeDir path) = ArePathNames path
AreSaid (ops.RemoveDir path) = ArePathNames path
AreSaid (ops.Remove path) = ArePathNames path
AreSaid (ops.Rename from to) = ArePathNames from × ArePathNames to
AreSaid (ops.Link from to) = ArePathNames from × ArePathNames to
AreSaid (ops.SymLink path target) = ArePathNames path × IsTargetWord target
AreSaid (ops.ReadLink path) = ArePathNames path
AreSaid (ops.List path) = ArePathNames path

-- an operation within the bounds of its command
pub record IsOp (op : Op) : Type 0 where
  pub within : IsAsked op
  pub said : AreSaid op

-- ---- answers

abbrev pub IsFault : Fault → Type 0
IsFault (faults.Nfs n) = (1 ≤ n) × (n < 2 ^ 32)
IsFault (faults.Rpc n) = n < 2 ^ 64
IsFault (faults.Bad n) = (1 ≤ n) × (n ≤ 7)
IsFault faults.Lost = Unit {0}
IsFault faults.Spent = Unit {0}
IsFault faults.Slot = Unit {0}
IsFault faults.Mode = Unit {0}
IsFault faults.Kind = Unit {0}
IsFault faults.Many = Unit {0}
IsFault faults.Memory = Unit {0}

-- the attributes that a stat shows fit their fields
pub record IsShownAttr (attr : Attr) : Type 0 where
  pub kind : attr.kind < 2 ^ 32
  pub nlink : attr.nlink < 2 ^ 32
  pub uid : attr.uid < 2 ^ 32
  pub gid : attr.gid < 2 ^ 32
  pub size : attr.size < 2 ^ 64
  pub fileid : attr.fileid < 2 ^ 64
  pub seconds : attr.mtime.seconds < 2 ^ 32

-- a name of a listing
pub record IsListedName (name : List ℕ) : Type 0 where
  pub bytes : IsBytes name
  pub is : IsName name

abbrev pub AreListedNames : List (List ℕ) → Type 0
AreListedNames [] = Unit {0}
AreListedNames (name ∷ names) = IsListedName name × AreListedNames names

-- what an operation of that shape may show
pub data IsValue : AnswerShape → Value → Type 0 where
  shows_nothing : IsValue shapes.no_value values.Nothing
  shows_bytes : (shown : List ℕ) → IsBytes shown → IsValue shapes.read_bytes (values.Bytes shown)
  shows_text : (shown : List ℕ) → IsBytes shown → IsValue shapes.link_text (values.Text shown)
  shows_attrs : (attr : Attr) → IsShownAttr attr → IsValue shapes.stat_attrs (values.Attrs attr)
  shows_bits : (granted : ℕ) → granted < 2 ^ 32 → IsValue shapes.access_bits (values.Bits granted)
  shows_names : (listed : List (List ℕ)) → AreListedNames listed → IsValue shapes.listed_names (values.Names listed)

abbrev pub IsAnswer : AnswerShape → Answer → Type 0
IsAnswer shape (answers.Done value) = IsValue shape value
IsAnswer shape (answers.Refused fault) = IsFault fault

-- ---- entries

-- bytes of a record
abbrev pub IsRecord : List ℕ → Type 0
IsRecord bytes = IsBytes bytes

-- a write verifier is eight bytes
pub record IsVerf (verf : Verf) : Type 0 where
  pub bytes : IsBytes verf.0
  pub eight : length verf.0 ≡ 8

-- a lane and the number of a line
pub record IsLine (lane line : ℕ) : Type 0 where
  pub lane_least : 1 ≤ lane
  pub lane_most : lane ≤ 16
  pub line_least : 1 ≤ line
  pub line_most : line < 2 ^ 32

-- Bytes can spell the call and the reply, and what is written of them under the xid spells them.
pub record IsCall (xid : ℕ) (call : Call) (reply : Reply) : Type 0 where
  pub spelled : HasSpellingCall call × HasSpellingReply reply
  pub call_plain : IsBytes (call_bytes xid call)
  pub reply_plain : IsBytes (reply_bytes xid reply)
  pub asks : SpellsCall xid call (call_bytes xid call)
  pub answers : SpellsReply xid call reply (reply_bytes xid reply)

-- an entry that a line can say, if operations that began before show these shapes
abbrev pub IsEntry : (ℕ → ℕ → AnswerShape) → Entry → Type 0
IsEntry shape (entries.Began lane line op) = IsLine lane line × IsOp op
IsEntry shape (entries.Answered lane line answer) = IsLine lane line × IsAnswer (shape lane line) answer
IsEntry shape (entries.Dialed port) = port < 2 ^ 16
IsEntry shape (entries.Sent bytes) = IsRecord bytes
IsEntry shape (entries.Executed xid call reply) = IsCall xid call reply
IsEntry shape (entries.Foreign call reply) = IsCall 0 call reply
IsEntry shape (entries.Flushed file from len) = IsHandleWord file × (from < 2 ^ 64) × (len < 2 ^ 64)
IsEntry shape (entries.Reboot verf) = IsVerf verf
IsEntry shape (entries.Delivered bytes) = IsRecord bytes
IsEntry shape entries.Failed = Unit {0}
IsEntry shape (entries.Clock ms) = ms < 2 ^ 64

-- an entry of which the record of the call and that of the reply, as they are written, are read as they are
abbrev pub IsWritten : Entry → Type 0
IsWritten (entries.Began lane line op) = Unit {0}
IsWritten (entries.Answered lane line answer) = Unit {0}
IsWritten (entries.Dialed port) = Unit {0}
IsWritten (entries.Sent bytes) = Unit {0}
IsWritten (entries.Executed xid call reply) = IsCall xid call reply
IsWritten (entries.Foreign call reply) = IsCall 0 call reply
IsWritten (entries.Flushed file from len) = Unit {0}
IsWritten (entries.Reboot verf) = Unit {0}
IsWritten (entries.Delivered bytes) = Unit {0}
IsWritten entries.Failed = Unit {0}
IsWritten (entries.Clock ms) = Unit {0}

-- the same of each entry
abbrev pub AreWritten : List Entry → Type 0
AreWritten es = (n : ℕ) (entry : Entry) → slice_get es n ≡ Some entry → IsWritten entry

-- ---- the server

-- attributes fit their fields (RFC 1813, section 2.5, fattr3)
pub record IsAttr (attr : Attr) : Type 0 where
  pub kind : attr.kind < 2 ^ 32
  pub mode : attr.mode < 2 ^ 32
  pub nlink : attr.nlink < 2 ^ 32
  pub uid : attr.uid < 2 ^ 32
  pub gid : attr.gid < 2 ^ 32
  pub size : attr.size < 2 ^ 64
  pub used : attr.used < 2 ^ 64
  pub rdev_major : attr.rdev_major < 2 ^ 32
  pub rdev_minor : attr.rdev_minor < 2 ^ 32
  pub fsid : attr.fsid < 2 ^ 64
  pub fileid : attr.fileid < 2 ^ 64
  pub atime : (attr.atime.seconds < 2 ^ 32) × (attr.atime.nanos < 2 ^ 32)
  pub mtime : (attr.mtime.seconds < 2 ^ 32) × (attr.mtime.nanos < 2 ^ 32)
  pub ctime : (attr.ctime.seconds < 2 ^ 32) × (attr.ctime.nanos < 2 ^ 32)

-- An object holds what its kind says: a file of kind 1 has the size of its bytes, of which no more are stable; a directory has kind 2; any other a text.
pub data IsHeld (attr : Attr) : Contents → Type 0 where
  holds_file : (now stable : List ℕ) → attr.kind ≡ 1 → attr.size ≡ length now → length stable ≤ length now → IsBytes now → IsBytes stable
      → IsHeld attr (holds.File now stable)
  holds_directory : (list : Vec DirEntry Global) → attr.kind ≡ 2 → IsHeld attr (holds.Directory list)
  holds_other : (shown : List ℕ) → attr.kind ≢ 1 → attr.kind ≢ 2 → IsBytes shown → IsHeld attr (holds.Other shown)

-- an object under its file handle that a line can show
pub record IsUpdated (updated : Updated) : Type 0 where
  pub handle : IsHandleWord updated.handle
  pub attr : IsAttr updated.object.attr
  pub held : IsHeld updated.object.attr updated.object.contents

-- an entry of a directory that a line can show
pub record IsListed (entry : DirEntry) : Type 0 where
  pub name : IsListedName entry.name
  pub object : IsHandleWord entry.object
  pub least : 1 ≤ entry.cookie
  pub most : entry.cookie < 2 ^ 64

-- an entry stands before each of these
abbrev pub IsBefore : Listed → List Listed → Type 0
IsBefore entry [] = Unit {0}
IsBefore entry (other ∷ others) = (comes_before entry other ≡ true) × IsBefore entry others

-- a list in the order of cookies, and of names if these are equal
abbrev pub IsSorted : List Listed → Type 0
IsSorted [] = Unit {0}
IsSorted (entry ∷ entries) = IsBefore entry entries × IsSorted entries

-- no entry of these has the name
abbrev pub IsFree : List ℕ → List Listed → Type 0
IsFree name [] = Unit {0}
IsFree name (entry ∷ entries) = (bytes_eq entry.name name ≡ false) × IsFree name entries

-- no two entries have one name
abbrev pub AreFree : List DirEntry → Type 0
AreFree [] = Unit {0}
AreFree (entry ∷ entries) = IsFree entry.name (map listed_of entries) × AreFree entries

abbrev pub AreListed : List DirEntry → Type 0
AreListed [] = Unit {0}
AreListed (entry ∷ entries) = IsListed entry × AreListed entries

-- the list of a directory that lines can show: it is in order, and each name stands there once
pub record IsListing (entries : List DirEntry) : Type 0 where
  pub listed : AreListed entries
  pub free : AreFree entries
  pub sorted : IsSorted (map listed_of entries)

-- ---- what an entry changes

-- An object that lines can show after what was there: what was gone stays so.
pub record IsChange (was : Option Object) (updated : Updated) : Type 0 where
  pub shown : IsUpdated updated
  pub gone : was_gone was ≡ true → updated.object.gone ≡ true
  pub before : IsListing (entries_of was)
  pub list : IsListing (entries_in updated.object.contents)

-- the same of all of these, after what was there
abbrev pub AreChanges : (List ℕ → Option Object) → List Updated → Type 0
AreChanges was [] = Unit {0}
AreChanges was (updated ∷ objects) = IsChange (was updated.handle) updated × AreChanges was objects

abbrev pub IsRoot : Option (List ℕ) → Type 0
IsRoot None = Unit {0}
IsRoot (Some root) = IsHandleWord root

-- Each mark of a trace is one that lines can say. Nothing changes the server behind the last entry.
pub record HasText (trace : Trace) : Type 0 where
  pub root : IsRoot trace.root
  pub lives : trace.lives < 2 ^ 64
  pub few : length trace.entries.items ≤ 4096
  pub ends : (n : ℕ) → length trace.entries.items ≤ n → server_at trace n ≡ server_at trace (length trace.entries.items)
  pub verf : IsVerf trace.start.verf
  pub start : AreChanges (object_before trace None) (firsts (objects_in trace None) (length (objects_in trace None)))
  pub verfs : (n : ℕ) → n < length trace.entries.items → IsVerf (verf_at trace.start.verf trace.updates.items (suc n))
  pub changes : (n : ℕ) → n < length trace.entries.items
      → AreChanges (object_before trace (Some n)) (firsts (objects_in trace (Some n)) (length (objects_in trace (Some n))))
  pub entries : (n : ℕ) (entry : Entry) → slice_get trace.entries.items n ≡ Some entry
      → IsEntry (λ lane line. last_shape lane line trace.entries.items n) entry
