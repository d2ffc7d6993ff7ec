-- A history of the layers' model, read as a story of written bytes: entry by entry, at the same places and moments.
use Rattle.std.specs.Prelude.{◌≡◌, ◌<◌, ◌↔◌, ℕ, zero, suc, Bool, false, List, [], length, replicate, Option, Some, None, slice_get}
use Rattle.nfs_types.specs.declared.set_attr.SetAttr.{SetAttr}
use Rattle.rpc_message.specs.Reply.{SpellsRefusal}
use Rattle.nfs_dir_calls.specs.declared.call.DirCall.TheVariants as dirs
use Rattle.nfs_dir_calls.specs.declared.create.Making.TheVariants as makings
use Rattle.nfs_file_calls.specs.declared.call.FileCall.{FileCall}
use Rattle.nfs_file_calls.specs.declared.call.FileCall.TheVariants as files
use Rattle.nfs_file_calls.specs.declared.owned.FileKept.TheVariants as kept
use Rattle.world_model.specs.declared.answer.Answer.{Answer}
use Rattle.world_model.specs.declared.answer.Answer.TheVariants as answers
use Rattle.world_model.specs.declared.entry.Entry.{Entry}
use Rattle.world_model.specs.declared.entry.Entry.TheVariants as entries
use Rattle.world_model.specs.declared.message.Call.{Call}
use Rattle.world_model.specs.declared.message.Call.TheVariants as calls
use Rattle.world_model.specs.declared.message.Reply.{Reply}
use Rattle.world_model.specs.declared.message.Reply.TheVariants as replies
use Rattle.world_model.specs.declared.op.Op.{Op}
use Rattle.world_model.specs.declared.op.Op.TheVariants as ops
use Rattle.world_model.specs.Entries as histories
use Rattle.world_model.specs.History.{History}
use Rattle.world_model.specs.Leads.{Leads}
use Rattle.world_model.specs.Messages.{HasXid, SpellsCall, SpellsReply}
use Rattle.claims.specs.Modes.{Modes}
use Rattle.world_model.specs.Mounts.{Origin}
use Rattle.world_model.specs.Operations.{EndsAt}
use Rattle.world_model.specs.Server as servers
use Rattle.claims.specs.Slots.{IsOf, Opens, PutsTo}
use Rattle.claims.specs.Touched.{ChangesPlace}
use Rattle.model_writes.specs.Story.{File, Spot, write_op, put_op, sync_op, close_op, cut_op, open_op, plain_op, write, commit, resize, plain, wrote, committed, told, denied, done, refused, Event, flushes, Began, Answered, Sent, Executed, Foreign, Reboot, Delivered, Failed, At, Alters, Told}
use Rattle.model_writes.specs.Story as story

-- ---- servers

abbrev pub held_now : servers.Holds → ℕ → Option ℕ
held_now (servers.Bytes now stable) i = slice_get now i
held_now (servers.Entries listed) i = None
held_now (servers.Text text) i = None

abbrev pub held_stable : servers.Holds → ℕ → Option ℕ
held_stable (servers.Bytes now stable) i = slice_get stable i
held_stable (servers.Entries listed) i = None
held_stable (servers.Text text) i = None

-- the byte of a place of an object, if it is a file
abbrev pub byte_now : Option servers.Object → ℕ → Option ℕ
byte_now None i = None
byte_now (Some o) i = held_now o.holds i

-- and the one that a restart leaves
abbrev pub byte_stable : Option servers.Object → ℕ → Option ℕ
byte_stable None i = None
byte_stable (Some o) i = held_stable o.holds i

abbrev pub is_gone : Option servers.Object → Bool
is_gone None = false
is_gone (Some o) = o.gone

-- the same write verifier, the same bytes of each file, and the same files gone
pub record MirrorsServer (a : servers.Server) (b : story.Server) : Type 0 where
  pub verf : b.verf ≡ a.verf.0
  pub now : (i : Spot) → b.now i ≡ byte_now (a.object i.file) i.at
  pub stable : (i : Spot) → b.stable i ≡ byte_stable (a.object i.file) i.at
  pub gone : (f : File) → b.gone f ≡ is_gone (a.object f)

-- ---- calls and replies

abbrev pub sized_call : File → Option ℕ → story.Call
sized_call f None = plain 0
sized_call f (Some size) = resize f size

abbrev pub file_call_of : FileCall → story.Call
file_call_of (files.Write f offset how bytes) = write f offset bytes how
file_call_of (files.Commit f zero zero) = commit f
file_call_of (files.SetAttr f set guard) = sized_call f set.size
file_call_of call = plain 0

-- a COMMIT of a part of a file is a call like any other, and so is a SETATTR without a size
abbrev pub call_of : Call → story.Call
call_of (calls.File call) = file_call_of call
call_of call = plain 0

abbrev pub reply_of : story.Call → Reply → story.Reply
reply_of (write f offset bytes how) (replies.File (kept.Write wcc counted firm verf)) = wrote 0 counted firm verf.0
reply_of (write f offset bytes how) (replies.File (kept.WriteFail status wcc)) = wrote status.0 0 0 []
reply_of (commit f) (replies.File (kept.Commit wcc verf)) = committed 0 verf.0
reply_of (commit f) (replies.File (kept.CommitFail status wcc)) = committed status.0 []
reply_of call reply = told 0

-- ---- operations

-- what an operation of the file is
abbrev pub op_on : File → Op → story.Op
op_on f (ops.Write slot offset bytes) = write_op f offset bytes
op_on f (ops.Fill slot offset count byte) = write_op f offset (replicate count byte)
op_on f (ops.Sync slot) = sync_op f
op_on f (ops.Close slot) = close_op f slot
op_on f (ops.Truncate slot size) = cut_op f size
op_on f op = plain_op

-- what it may be read as: one of its file, a put into the file to which its path leads by its end, an open, or any other
pub data Meaning (m : Modes) (origin : Origin) (h : List Entry) (n : ℕ) (op : Op) (o : story.Op) : Type 0 where
  on_file : (f : File) → IsOf m h n op f → o ≡ op_on f op → Meaning m origin h n op o
  by_path : (offset e : ℕ) (path : List (List ℕ)) (bytes : List ℕ) (f : File) → op ≡ ops.Put path offset bytes → EndsAt h n e → Leads origin h e path f
      → o ≡ put_op f offset bytes → Meaning m origin h n op o
  opening : (slot : ℕ) (f : File) → o ≡ open_op f slot → Meaning m origin h n op o
  other : o ≡ plain_op → Meaning m origin h n op o

-- The operation that began at the place n is read so. What is known of its file at any time is of the same file.
pub record MirrorsOp (m : Modes) (origin : Origin) (h : List Entry) (n : ℕ) (op : Op) (o : story.Op) : Type 0 where
  pub means : Meaning m origin h n op o
  pub of_file : (f : File) → IsOf m h n op f → o ≡ op_on f op
  pub puts : (y : ℕ) (f : File) (offset : ℕ) (bytes : List ℕ) → PutsTo h n y f offset bytes → o ≡ put_op f offset bytes
  pub opens : (lane slot y : ℕ) (f : File) → Opens m h lane slot n y f → o ≡ open_op f slot

-- ---- entries

-- a record that was sent is one call under one xid
pub record MirrorsSent (bytes : List ℕ) (d : story.Entry) : Type 0 where
  pub xid : ℕ
  pub call : story.Call
  pub is : d ≡ Sent xid call
  pub under : (x : ℕ) → HasXid bytes x → x ≡ xid
  pub spells : (x : ℕ) (c : Call) → SpellsCall x c bytes → (x ≡ xid) × (call_of c ≡ call)

-- A record that came is read by the call that was executed under its xid. One that refuses a call has its xid alone.
pub record MirrorsReply (h : List Entry) (n : ℕ) (bytes : List ℕ) (d : story.Entry) : Type 0 where
  pub xid : ℕ
  pub reply : story.Reply
  pub is : d ≡ Delivered xid reply
  pub under : HasXid bytes xid
  pub replied : (m x : ℕ) (call : Call) (r : Reply) → m < n → histories.At h m (entries.Executed x call r) → SpellsReply x call r bytes
      → (xid ≡ x) × (reply ≡ reply_of (call_of call) r)
  pub refuses : (x code : ℕ) → SpellsRefusal x code bytes → (xid ≡ x) × (reply ≡ denied)

-- this client makes no file shorter by a CREATE
abbrev pub Unsized : Call → Type 0
Unsized call = (d name : List ℕ) (set : SetAttr) → call ≡ calls.Dir (dirs.Create d name (makings.Unchecked set)) → set.size ≡ None

abbrev pub MirrorsEntry : Modes → Origin → History → ℕ → Entry → story.Entry → Type 0
MirrorsEntry m origin t n (entries.Began lane line op) d = (o : story.Op) × (d ≡ Began lane o) × MirrorsOp m origin t.entries n op o
MirrorsEntry m origin t n (entries.Answered lane line (answers.Done value)) d = d ≡ Answered lane done
MirrorsEntry m origin t n (entries.Answered lane line (answers.Refused fault)) d = d ≡ Answered lane refused
MirrorsEntry m origin t n (entries.Sent bytes) d = MirrorsSent bytes d
MirrorsEntry m origin t n (entries.Executed xid call reply) d = (d ≡ Executed xid (call_of call) (reply_of (call_of call) reply)) × Unsized call
MirrorsEntry m origin t n (entries.Foreign call reply) d = (event : Event) × (d ≡ Foreign event)
    × ((i : Spot) → Alters event i ↔ ChangesPlace (t.at (suc n)) i.file i.at call reply)
MirrorsEntry m origin t n (entries.Flushed f start count) d = d ≡ Foreign flushes
MirrorsEntry m origin t n (entries.Reboot verf) d = d ≡ Reboot
MirrorsEntry m origin t n (entries.Delivered bytes) d = MirrorsReply t.entries n bytes d
MirrorsEntry m origin t n (entries.Dialed port) d = d ≡ Failed
MirrorsEntry m origin t n entries.Failed d = d ≡ Failed
MirrorsEntry m origin t n (entries.Clock ms) d = d ≡ Failed

-- ---- histories

-- The story s reads the history t: entry by entry, and server by server; and in each lane the next answer after an operation
-- began is its own.
pub record Mirrors (m : Modes) (origin : Origin) (t : History) (s : Told) : Type 0 where
  pub long : length s.entries ≡ length t.entries
  pub reads : (n : ℕ) (e : Entry) (d : story.Entry) → histories.At t.entries n e → At s.entries n d → MirrorsEntry m origin t n e d
  pub servers : (n : ℕ) → MirrorsServer (t.at n) (s.at n)
  pub in_turn : (n y lane line later : ℕ) (op : Op) (a : Answer) → histories.At t.entries n (entries.Began lane line op)
      → histories.At t.entries y (entries.Answered lane later a) → n < y
      → ((k other : ℕ) (b : Answer) → histories.At t.entries k (entries.Answered lane other b) → n < k → k < y → ⊥) → later ≡ line
