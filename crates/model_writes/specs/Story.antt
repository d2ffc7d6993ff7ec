-- What happens: a client's operations and calls, and a server that holds files of bytes. It is coarser than the model of the
-- layers: an operation has its file, and calls and replies are those that matter to written bytes.
use Rattle.std.specs.Prelude.{Bool, true, false, bytes_eq, ◌≡◌, ◌<◌, ◌≤◌, ◌-◌, ℕ, List, ◌++◌, Option, Some, None, slice_get, nat_lt, ◌+◌, if◌then◌else◌}

-- a file, by its handle
abbrev pub File : Type 0
File = List ℕ

-- a write verifier (RFC 1813, section 3.3.7)
abbrev pub Verifier : Type 0
Verifier = List ℕ

-- a place of a file
pub record Spot : Type 0 where
  pub file : File
  pub at : ℕ

-- What a lane does. A write puts bytes into a file that is open; a put is an open, a write, a sync and a close in one.
pub data Op : Type 0 where
  write_op : (file : File) (offset : ℕ) (bytes : List ℕ) → Op
  put_op : (file : File) (offset : ℕ) (bytes : List ℕ) → Op
  sync_op : (file : File) → Op
  close_op : (file : File) (slot : ℕ) → Op
  cut_op : (file : File) (size : ℕ) → Op
  open_op : (file : File) (slot : ℕ) → Op
  plain_op : Op

-- WRITE, COMMIT of a whole file, SETATTR with a size, and any other call (RFC 1813, section 3.3)
pub data Call : Type 0 where
  write : (file : File) (offset : ℕ) (bytes : List ℕ) (how : ℕ) → Call
  commit : (file : File) → Call
  resize : (file : File) (size : ℕ) → Call
  plain : (what : ℕ) → Call

-- A reply to WRITE or COMMIT has a status and a write verifier; one to another call a status. The last is an RPC refusal (RFC
-- 5531, section 9).
pub data Reply : Type 0 where
  wrote : (status count committed : ℕ) (verf : Verifier) → Reply
  committed : (status : ℕ) (verf : Verifier) → Reply
  told : (status : ℕ) → Reply
  denied : Reply

-- an operation succeeded, or it didn't
pub data Answer : Type 0 where
  done : Answer
  refused : Answer

-- what happens at the server without this client: some places may be changed, or a part of a file becomes stable by itself
pub data Event : Type 0 where
  changes : (places : Spot → Bool) → Event
  flushes : Event

-- an operation begins and is answered in its lane; a call goes out, is executed, and its reply comes
pub data Entry : Type 0 where
  Began : (lane : ℕ) (op : Op) → Entry
  Answered : (lane : ℕ) (answer : Answer) → Entry
  Sent : (xid : ℕ) (call : Call) → Entry
  Executed : (xid : ℕ) (call : Call) (reply : Reply) → Entry
  Foreign : (event : Event) → Entry
  Reboot : Entry
  Delivered : (xid : ℕ) (reply : Reply) → Entry
  Failed : Entry

-- entry i of the history is e; entries are counted from 0
abbrev pub At : List Entry → ℕ → Entry → Type 0
At h i e = slice_get h i ≡ Some e

-- the byte that these bytes from offset give to a place
unfoldable pub covers : File → ℕ → List ℕ → Spot → Option ℕ
covers file offset bytes i = if bytes_eq file i.file then (if nat_lt i.at offset then None else slice_get bytes (i.at - offset)) else None

-- the byte that a call would put at a place
abbrev pub gives : Call → Spot → Option ℕ
gives (write file offset bytes how) i = covers file offset bytes i
gives (commit file) i = None
gives (resize file size) i = None
gives (plain what) i = None

-- the byte that an operation gives to a place
abbrev pub means : Op → Spot → Option ℕ
means (write_op file offset bytes) i = covers file offset bytes i
means (put_op file offset bytes) i = covers file offset bytes i
means (sync_op file) i = None
means (close_op file slot) i = None
means (cut_op file size) i = None
means (open_op file slot) i = None
means plain_op i = None

-- the operation is a put
abbrev pub is_put : Op → Bool
is_put (write_op file offset bytes) = false
is_put (put_op file offset bytes) = true
is_put (sync_op file) = false
is_put (close_op file slot) = false
is_put (cut_op file size) = false
is_put (open_op file slot) = false
is_put plain_op = false

-- an ok answer to it says that the file is stable
abbrev pub Firms : Op → File → Type 0
Firms (write_op file offset bytes) f = ⊥
Firms (put_op file offset bytes) f = f ≡ file
Firms (sync_op file) f = f ≡ file
Firms (close_op file slot) f = f ≡ file
Firms (cut_op file size) f = ⊥
Firms (open_op file slot) f = ⊥
Firms plain_op f = ⊥

-- the first count bytes of a call reach a place
abbrev pub Reach : Call → ℕ → Spot → Type 0
Reach (write file offset bytes how) count i = i.at < offset + count
Reach (commit file) count i = ⊥
Reach (resize file size) count i = ⊥
Reach (plain what) count i = ⊥

-- a call that may change a place, with any answer
abbrev pub Changes : Call → Spot → Type 0
Changes (write file offset bytes how) i = (y : ℕ) × (covers file offset bytes i ≡ Some y)
Changes (commit file) i = ⊥
Changes (resize file size) i = (i.file ≡ file) × (size ≤ i.at)
Changes (plain what) i = ⊥

-- what happens from outside may change a place
abbrev pub Alters : Event → Spot → Type 0
Alters (changes places) i = places i ≡ true
Alters flushes i = ⊥

-- A server has a write verifier. It has of each place the byte that is there now, and the one that a restart leaves (RFC
-- 1813, section 4.8). A file may be gone.
pub record Server : Type 0 where
  pub verf : Verifier
  pub now : Spot → Option ℕ
  pub stable : Spot → Option ℕ
  pub gone : File → Bool

-- a history, with the server at each of its moments: moment n lies after the first n entries
pub record Told : Type 0 where
  pub entries : List Entry
  pub at : ℕ → Server

-- the history begins with h
pub record Begins (t : Told) (h : List Entry) : Type 0 where
  pub rest : List Entry
  pub is : t.entries ≡ h ++ rest

-- the place has this byte, now and after a restart
abbrev pub Both : Server → Spot → ℕ → Type 0
Both s i b = (s.now i ≡ Some b) × (s.stable i ≡ Some b)
