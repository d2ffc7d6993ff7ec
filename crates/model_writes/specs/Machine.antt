-- The client as a machine: what it keeps of each place, the calls that wait, the lanes, the open slots. Entries of the history
-- do the least to it; all else are moves of the client alone, at any time between entries. What a step asks is what the
-- contracts of the layers are to show; which layer, stands beside it.
use Rattle.std.specs.Prelude.{Bool, true, false, ◌≡◌, ◌≢◌, ◌<◌, ◌≤◌, ◌⊎◌, ◌+◌, ℕ, suc, List, Option, Some, None}
use Rattle.model_writes.specs.Story.{Verifier, File, Spot, Op, write_op, put_op, sync_op, close_op, cut_op, open_op, plain_op, Call, write, commit, resize, plain, Reply, wrote, committed, Answer, done, refused, Entry, Began, Answered, Sent, Executed, Foreign, Reboot, Delivered, Failed, covers, means, is_put, Firms, Reach}

-- a pending byte was not sent yet, or is to be sent again, or was acknowledged under a write verifier
pub data Mark : Type 0 where
  unsent : Mark
  again : Mark
  acked : (verf : Verifier) → Mark

-- A pending byte that isn't in flight, and the number of the operation that it came with. A greater number is newer.
pub record Cell : Type 0 where
  pub byte : ℕ
  pub number : ℕ
  pub mark : Mark

-- a byte in flight, and the xid of its WRITE
pub record Flight : Type 0 where
  pub byte : ℕ
  pub number : ℕ
  pub xid : ℕ

-- under way; in its file's queue with what came up to a number; with an answer that is not noted yet
pub data Work : Type 0 where
  starts : Work
  joins : (upto : ℕ) → Work
  ready : (answer : Answer) → Work

pub data Lane : Type 0 where
  idle : Lane
  busy : (from : ℕ) (op : Op) (work : Work) → Lane

-- the number under which an operation's bytes came in, and whether it is a put
pub record Added : Type 0 where
  pub number : ℕ
  pub put : Bool

-- Of each place the pending byte and the one in flight; the calls that wait under their xids; the lanes; under which number the
-- bytes came in of what began at a place (no code keeps it); the file of each open slot; whether pending bytes of a file were given
-- up since the last record (no code keeps it); and whether the session is lost.
pub record View : Type 0 where
  pub next_xid : ℕ
  pub seq : ℕ
  pub rest : Spot → Option Cell
  pub fly : Spot → Option Flight
  pub wait : ℕ → Option Call
  pub lane : ℕ → Lane
  pub added : ℕ → Option Added
  pub opens : ℕ → ℕ → Option File
  pub gave : File → Bool
  pub lost : Bool

abbrev pub SameAt : View → View → Spot → Type 0
SameAt old new i = (new.rest i ≡ old.rest i) × (new.fly i ≡ old.fly i)

pub record SameCalls (old new : View) : Type 0 where
  pub next : new.next_xid ≡ old.next_xid
  pub wait : (x : ℕ) → new.wait x ≡ old.wait x

pub record SameAdds (old new : View) : Type 0 where
  pub seq : new.seq ≡ old.seq
  pub added : (w : ℕ) → new.added w ≡ old.added w
  pub lost : old.lost ≡ true → new.lost ≡ true

pub record SameLanes (old new : View) : Type 0 where
  pub lane : (l : ℕ) → new.lane l ≡ old.lane l

pub record SameSlots (old new : View) : Type 0 where
  pub opens : (l slot : ℕ) → new.opens l slot ≡ old.opens l slot
  pub gave : (f : File) → new.gave f ≡ old.gave f

pub record SamePlaces (old new : View) : Type 0 where
  pub there : (i : Spot) → SameAt old new i

-- one lane turns
pub record Turns (old new : View) (l : ℕ) (before after : Lane) : Type 0 where
  pub was : old.lane l ≡ before
  pub is : new.lane l ≡ after
  pub others : (k : ℕ) → k ≢ l → new.lane k ≡ old.lane k

-- A call waits under an xid that was never used. Shown by rpc_retry.
pub record NewCall (old new : View) (x : ℕ) (call : Call) : Type 0 where
  pub numbered : x ≡ old.next_xid
  pub next : new.next_xid ≡ old.next_xid + 1
  pub is : new.wait x ≡ Some call
  pub others : (z : ℕ) → z ≢ x → new.wait z ≡ old.wait z

-- ---- moves of the client alone

-- a pending byte takes off, if none of its place is in flight
pub record PicksUp (old new : View) (x : ℕ) (i : Spot) (y : ℕ) : Type 0 where
  pub cell : Cell
  pub was : old.rest i ≡ Some cell
  pub byte_is : cell.byte ≡ y
  pub free : old.fly i ≡ None
  pub rest : new.rest i ≡ None
  pub fly : new.fly i ≡ Some (record { byte = y; number = cell.number; xid = x })

-- A WRITE of pending bytes. What takes off: shown by write_back (next_to_send). That no COMMIT of the file waits: file_ops, as
-- only the head of the file's queue makes either.
pub record MakesWrite (old new : View) : Type 0 where
  pub x : ℕ
  pub file : File
  pub offset : ℕ
  pub bytes : List ℕ
  pub how : ℕ
  pub calls : NewCall old new x (write file offset bytes how)
  pub adds : SameAdds old new
  pub lanes : SameLanes old new
  pub slots : SameSlots old new
  pub alone : (z : ℕ) → old.wait z ≡ Some (commit file) → ⊥
  pub picks : (i : Spot) (y : ℕ) → covers file offset bytes i ≡ Some y → PicksUp old new x i y
  pub others : (i : Spot) → covers file offset bytes i ≡ None → SameAt old new i

-- A COMMIT of the file while nothing of it is in flight. Shown by file_ops.
pub record MakesCommit (old new : View) : Type 0 where
  pub x : ℕ
  pub file : File
  pub calls : NewCall old new x (commit file)
  pub adds : SameAdds old new
  pub lanes : SameLanes old new
  pub slots : SameSlots old new
  pub places : SamePlaces old new
  pub grounded : (i : Spot) → i.file ≡ file → old.fly i ≡ None

-- A SETATTR of a size is that of a truncate under way. Shown by client_core.
abbrev pub Asked : View → Call → Type 0
Asked c (write file offset bytes how) = ⊥
Asked c (commit file) = ⊥
Asked c (resize file size) = (l : ℕ) × (from : ℕ) × (c.lane l ≡ busy from (cut_op file size) starts)
Asked c (plain what) = Unit {0}

-- any other call
pub record MakesCall (old new : View) : Type 0 where
  pub x : ℕ
  pub call : Call
  pub calls : NewCall old new x call
  pub adds : SameAdds old new
  pub lanes : SameLanes old new
  pub slots : SameSlots old new
  pub places : SamePlaces old new
  pub asked : Asked old call

-- a write's answer is ready as its bytes are in; a put joins the queue with its own number
abbrev pub after_add : Op → ℕ → Work
after_add (write_op file offset bytes) number = ready done
after_add (put_op file offset bytes) number = joins number
after_add (sync_op file) number = starts
after_add (close_op file slot) number = starts
after_add (cut_op file size) number = starts
after_add (open_op file slot) number = starts
after_add plain_op number = starts

-- a write or a put
abbrev pub HasBytes : Op → Type 0
HasBytes (write_op file offset bytes) = Unit {0}
HasBytes (put_op file offset bytes) = Unit {0}
HasBytes (sync_op file) = ⊥
HasBytes (close_op file slot) = ⊥
HasBytes (cut_op file size) = ⊥
HasBytes (open_op file slot) = ⊥
HasBytes plain_op = ⊥

-- The bytes of a write or put come in under a new number, over what was pending: shown by write_back (add). The answer of a
-- write is ready in the same step: file_ops. Nothing comes in once the session is lost: client_core.
pub record Adds (old new : View) : Type 0 where
  pub l : ℕ
  pub from : ℕ
  pub op : Op
  pub has : HasBytes op
  pub lanes : Turns old new l (busy from op starts) (busy from op (after_add op (old.seq + 1)))
  pub calls : SameCalls old new
  pub slots : SameSlots old new
  pub found : old.lost ≡ false
  pub seq : new.seq ≡ old.seq + 1
  pub added : new.added from ≡ Some (record { number = old.seq + 1; put = is_put op })
  pub others_added : (w : ℕ) → w ≢ from → new.added w ≡ old.added w
  pub there : (i : Spot) (y : ℕ) → means op i ≡ Some y → new.rest i ≡ Some (record { byte = y; number = old.seq + 1; mark = unsent })
  pub fly : (i : Spot) → new.fly i ≡ old.fly i
  pub others : (i : Spot) → means op i ≡ None → new.rest i ≡ old.rest i

-- nothing of the file up to this number is pending
pub record Clear (file : File) (upto : ℕ) (c : View) : Type 0 where
  pub rest : (i : Spot) (cell : Cell) → i.file ≡ file → c.rest i ≡ Some cell → upto < cell.number
  pub fly : (i : Spot) (f : Flight) → i.file ≡ file → c.fly i ≡ Some f → upto < f.number

-- another lane cuts the file to the same size
pub record Beside (c : View) (l : ℕ) (file : File) (size : ℕ) : Type 0 where
  pub k : ℕ
  pub from : ℕ
  pub other : k ≢ l
  pub is : c.lane k ≡ busy from (cut_op file size) starts

-- While its SETATTR waits a truncate ends only if the session is lost: an equal one that waits is another truncate's. Shown by file_ops and client_core.
abbrev pub Unasked : View → ℕ → Op → Type 0
Unasked c l (write_op file offset bytes) = Unit {0}
Unasked c l (put_op file offset bytes) = Unit {0}
Unasked c l (sync_op file) = Unit {0}
Unasked c l (close_op file slot) = Unit {0}
Unasked c l (cut_op file size) = (y : ℕ) → c.wait y ≡ Some (resize file size) → (c.lost ≡ true) ⊎ Beside c l file size
Unasked c l (open_op file slot) = Unit {0}
Unasked c l plain_op = Unit {0}

-- How an operation goes on if nothing else changes. It joins the queue of its file with all numbers that were given by then
-- (`queues`: file_ops). It ends ok only if nothing up to its number is pending, and not between a give-up and the next record
-- (`firms`: file_ops). What is ready stays (client_core).
pub data Goes (c : View) (l : ℕ) : Op → Work → Work → Type 0 where
  queues : (op : Op) (file : File) → Firms op file → is_put op ≡ false → Goes c l op starts (joins c.seq)
  firms : (op : Op) (file : File) (upto : ℕ) → Firms op file → Clear file upto c → c.gave file ≡ false → Goes c l op (joins upto) (ready done)
  refuses : (op : Op) → Unasked c l op → Goes c l op starts (ready refused)
  stops : (op : Op) (upto : ℕ) → Goes c l op (joins upto) (ready refused)
  ends : Goes c l plain_op starts (ready done)
  cuts_none : (file : File) (size : ℕ) → Unasked c l (cut_op file size) → Goes c l (cut_op file size) starts (ready done)

-- an operation goes on so
pub record Proceeds (old new : View) : Type 0 where
  pub l : ℕ
  pub from : ℕ
  pub op : Op
  pub before : Work
  pub after : Work
  pub goes : Goes old l op before after
  pub lanes : Turns old new l (busy from op before) (busy from op after)
  pub calls : SameCalls old new
  pub adds : SameAdds old new
  pub slots : SameSlots old new
  pub places : SamePlaces old new

-- An open that ends ok gives its lane a slot that was free (open_files); and none of a file whose bytes were given up since the
-- last record, as the reply's own operation goes first (client_core).
pub record Opens (old new : View) : Type 0 where
  pub l : ℕ
  pub from : ℕ
  pub file : File
  pub slot : ℕ
  pub lanes : Turns old new l (busy from (open_op file slot) starts) (busy from (open_op file slot) (ready done))
  pub calls : SameCalls old new
  pub adds : SameAdds old new
  pub places : SamePlaces old new
  pub warm : old.gave file ≡ false
  pub free : old.opens l slot ≡ None
  pub gave : (f : File) → new.gave f ≡ old.gave f
  pub holds : new.opens l slot ≡ Some file
  pub others : (k s : ℕ) → (k ≡ l → s ≢ slot) → new.opens k s ≡ old.opens k s

-- A close takes the slot of its lane away. Shown by open_files.
pub record Frees (old new : View) : Type 0 where
  pub l : ℕ
  pub from : ℕ
  pub file : File
  pub slot : ℕ
  pub work : Work
  pub is : old.lane l ≡ busy from (close_op file slot) work
  pub was : old.opens l slot ≡ Some file
  pub lanes : SameLanes old new
  pub calls : SameCalls old new
  pub adds : SameAdds old new
  pub places : SamePlaces old new
  pub gave : (f : File) → new.gave f ≡ old.gave f
  pub others : (k s : ℕ) → (new.opens k s ≡ old.opens k s) ⊎ ((k ≡ l) × (s ≡ slot) × (new.opens k s ≡ None))

-- A truncate under way drops pending bytes at and past its size. Shown by write_back (cut) and file_ops.
pub record Cuts (old new : View) : Type 0 where
  pub l : ℕ
  pub from : ℕ
  pub file : File
  pub size : ℕ
  pub is : old.lane l ≡ busy from (cut_op file size) starts
  pub lanes : SameLanes old new
  pub calls : SameCalls old new
  pub adds : SameAdds old new
  pub slots : SameSlots old new
  pub places : (i : Spot) → SameAt old new i ⊎ ((i.file ≡ file) × (size ≤ i.at) × (new.rest i ≡ None) × (new.fly i ≡ old.fly i))

-- All that is pending of a file is given up while nothing of it is in flight. Shown by write_back (give_up) and file_ops.
pub record Drops (old new : View) (file : File) : Type 0 where
  pub calls : SameCalls old new
  pub adds : SameAdds old new
  pub grounded : (i : Spot) → i.file ≡ file → old.fly i ≡ None
  pub none : (i : Spot) → i.file ≡ file → (new.rest i ≡ None) × (new.fly i ≡ None)
  pub others : (i : Spot) → i.file ≢ file → SameAt old new i

-- By a close that is refused, if no slot holds the file (open_files, client_core), and every other close of the file has its
-- answer (file_ops: one that isn't past its sync holds its slot).
pub record GivesUp (old new : View) : Type 0 where
  pub l : ℕ
  pub from : ℕ
  pub file : File
  pub slot : ℕ
  pub upto : ℕ
  pub lanes : Turns old new l (busy from (close_op file slot) (joins upto)) (busy from (close_op file slot) (ready refused))
  pub shut : (k s : ℕ) → old.opens k s ≡ Some file → ⊥
  pub ended : (k from_k s : ℕ) (work : Work) → k ≢ l → old.lane k ≡ busy from_k (close_op file s) work → (a : Answer) × (work ≡ ready a)
  pub drops : Drops old new file
  pub opens : (k s : ℕ) → new.opens k s ≡ old.opens k s
  pub gave : new.gave file ≡ true
  pub others : (f : File) → f ≢ file → new.gave f ≡ old.gave f

-- By a put that is refused: what is pending is its own, or that of puts that were refused. Shown by file_ops and client_core: a
-- write's pending byte has an open slot on its file, or the head of the queue is a close past its sync; and no other put of the
-- file is under way. This is the one premise that is not of one step: it is to be an invariant.
pub record GivesUpPut (old new : View) : Type 0 where
  pub l : ℕ
  pub from : ℕ
  pub file : File
  pub offset : ℕ
  pub bytes : List ℕ
  pub upto : ℕ
  pub lanes : Turns old new l (busy from (put_op file offset bytes) (joins upto)) (busy from (put_op file offset bytes) (ready refused))
  pub drops : Drops old new file
  pub slots : SameSlots old new
  pub puts_only : (i : Spot) (cell : Cell) (w : ℕ) (a : Added) → i.file ≡ file → old.rest i ≡ Some cell → old.added w ≡ Some a → a.number ≡ cell.number
      → (w ≡ from) ⊎ ((a.put ≡ true) × ((k : ℕ) (op : Op) (work : Work) → old.lane k ≡ busy w op work → work ≡ ready refused))

-- the session is lost
pub record Loses (old new : View) : Type 0 where
  pub lanes : SameLanes old new
  pub calls : SameCalls old new
  pub adds : SameAdds old new
  pub slots : SameSlots old new
  pub places : SamePlaces old new

pub data Move (old new : View) : Type 0 where
  makes_write : MakesWrite old new → Move old new
  makes_commit : MakesCommit old new → Move old new
  makes_call : MakesCall old new → Move old new
  adds : Adds old new → Move old new
  proceeds : Proceeds old new → Move old new
  opens : Opens old new → Move old new
  frees : Frees old new → Move old new
  cuts : Cuts old new → Move old new
  gives_up : GivesUp old new → Move old new
  gives_up_put : GivesUpPut old new → Move old new
  loses : Loses old new → Move old new

-- ---- entries

-- A close that begins is that of a slot of its lane, unless the session is lost; else it is no close. Shown by client_core.
abbrev pub Slotted : View → ℕ → Op → Type 0
Slotted c l (write_op file offset bytes) = Unit {0}
Slotted c l (put_op file offset bytes) = Unit {0}
Slotted c l (sync_op file) = Unit {0}
Slotted c l (close_op file slot) = (c.opens l slot ≡ Some file) ⊎ (c.lost ≡ true)
Slotted c l (cut_op file size) = Unit {0}
Slotted c l (open_op file slot) = Unit {0}
Slotted c l plain_op = Unit {0}

-- an operation begins in a lane where none is under way: nfs_client
pub record Starts (old new : View) (n l : ℕ) (op : Op) : Type 0 where
  pub slotted : Slotted old l op
  pub lanes : Turns old new l idle (busy n op starts)
  pub calls : SameCalls old new
  pub adds : SameAdds old new
  pub slots : SameSlots old new
  pub places : SamePlaces old new

-- an answer that is ready is noted: nfs_client
pub record Answers (old new : View) (l : ℕ) (answer : Answer) : Type 0 where
  pub from : ℕ
  pub op : Op
  pub lanes : Turns old new l (busy from op (ready answer)) idle
  pub calls : SameCalls old new
  pub adds : SameAdds old new
  pub slots : SameSlots old new
  pub places : SamePlaces old new

-- What the reply to the WRITE x makes of a place: nothing; what was in flight lay under newer bytes; it is acknowledged, or
-- stable; or it is to be sent again. Shown by write_back (acked, refused, returned).
pub data Came : ℕ → Call → Reply → Spot → Option Cell → Option Flight → Option Cell → Option Flight → Type 0 where
  stays : (x : ℕ) (call : Call) (r : Reply) (i : Spot) (rest : Option Cell) (fly : Option Flight) (rest' : Option Cell) (fly' : Option Flight)
      → ((f : Flight) → fly ≡ Some f → f.xid ≢ x) → rest' ≡ rest → fly' ≡ fly → Came x call r i rest fly rest' fly'
  covered : (x : ℕ) (call : Call) (r : Reply) (i : Spot) (rest : Option Cell) (fly : Option Flight) (rest' : Option Cell) (fly' : Option Flight) (f : Flight)
      (c : Cell)
      → fly ≡ Some f → f.xid ≡ x → rest ≡ Some c → rest' ≡ rest → fly' ≡ None → Came x call r i rest fly rest' fly'
  acks : (x : ℕ) (call : Call) (r : Reply) (i : Spot) (rest : Option Cell) (fly : Option Flight) (rest' : Option Cell) (fly' : Option Flight) (f : Flight)
      (count : ℕ) (v : Verifier)
      → fly ≡ Some f → f.xid ≡ x → rest ≡ None → r ≡ wrote 0 count 0 v → Reach call count i
      → rest' ≡ Some (record { byte = f.byte; number = f.number; mark = acked v }) → fly' ≡ None → Came x call r i rest fly rest' fly'
  firms : (x : ℕ) (call : Call) (r : Reply) (i : Spot) (rest : Option Cell) (fly : Option Flight) (rest' : Option Cell) (fly' : Option Flight) (f : Flight)
      (count k : ℕ) (v : Verifier)
      → fly ≡ Some f → f.xid ≡ x → rest ≡ None → r ≡ wrote 0 count (suc k) v → Reach call count i → rest' ≡ None → fly' ≡ None
      → Came x call r i rest fly rest' fly'
  returns : (x : ℕ) (call : Call) (r : Reply) (i : Spot) (rest : Option Cell) (fly : Option Flight) (rest' : Option Cell) (fly' : Option Flight) (f : Flight)
      → fly ≡ Some f → f.xid ≡ x → rest ≡ None → rest' ≡ Some (record { byte = f.byte; number = f.number; mark = again }) → fly' ≡ None
      → Came x call r i rest fly rest' fly'

-- What the reply to a COMMIT makes of a place: nothing; what was acknowledged under its write verifier goes; what wasn't is to be
-- sent again. Shown by commit_verf and write_back (settle, mark_again).
pub data Heard : Reply → Option Cell → Option Cell → Type 0 where
  keeps : (r : Reply) (rest rest' : Option Cell) → rest' ≡ rest → Heard r rest rest'
  settles : (r : Reply) (rest rest' : Option Cell) (c : Cell) (v : Verifier) → r ≡ committed 0 v → rest ≡ Some c → c.mark ≡ acked v → rest' ≡ None
      → Heard r rest rest'
  resends : (r : Reply) (rest rest' : Option Cell) (c : Cell) → rest ≡ Some c → rest' ≡ Some (record { byte = c.byte; number = c.number; mark = again })
      → Heard r rest rest'

-- what a reply makes of the places, by the call
abbrev pub PlacesAfter : ℕ → Call → Reply → View → View → Type 0
PlacesAfter x (write file offset bytes how) r old new = (i : Spot) → Came x (write file offset bytes how) r i (old.rest i) (old.fly i) (new.rest i) (new.fly i)
PlacesAfter x (commit file) r old new = (i : Spot) → SameAt old new i ⊎ ((i.file ≡ file) × Heard r (old.rest i) (new.rest i) × (new.fly i ≡ old.fly i))
PlacesAfter x (resize file size) r old new = (i : Spot) → SameAt old new i
PlacesAfter x (plain what) r old new = (i : Spot) → SameAt old new i

-- the call waits no more, and its reply is taken: rpc_retry
pub record Took (old new : View) (x : ℕ) (r : Reply) : Type 0 where
  pub call : Call
  pub waits : old.wait x ≡ Some call
  pub gone : new.wait x ≡ None
  pub others : (z : ℕ) → z ≢ x → new.wait z ≡ old.wait z
  pub next : new.next_xid ≡ old.next_xid
  pub places : PlacesAfter x call r old new

-- What is in flight under x is in flight under y. Shown by write_back (renumber).
pub data Renamed (x y : ℕ) (fly fly' : Option Flight) : Type 0 where
  unmoved : ((f : Flight) → fly ≡ Some f → f.xid ≢ x) → fly' ≡ fly → Renamed x y fly fly'
  moved : (f : Flight) → fly ≡ Some f → f.xid ≡ x → fly' ≡ Some (record { byte = f.byte; number = f.number; xid = y }) → Renamed x y fly fly'

-- The call is made again under a new xid, in one step with the taking of the reply. Else its bytes would be in flight under a call that doesn't wait. Shown
-- by rpc_retry.
pub record Renews (old new : View) (x : ℕ) (r : Reply) : Type 0 where
  pub call : Call
  pub y : ℕ
  pub waits : old.wait x ≡ Some call
  pub numbered : y ≡ old.next_xid
  pub gone : new.wait x ≡ None
  pub is : new.wait y ≡ Some call
  pub others : (z : ℕ) → z ≢ x → z ≢ y → new.wait z ≡ old.wait z
  pub next : new.next_xid ≡ old.next_xid + 1
  pub rest : (i : Spot) → new.rest i ≡ old.rest i
  pub fly : (i : Spot) → Renamed x y (old.fly i) (new.fly i)

-- A record under an xid that doesn't wait changes nothing (rpc_retry), nor does any in a lost session (client_core).
pub record Ignores (old new : View) (x : ℕ) : Type 0 where
  pub idle_or_lost : (old.wait x ≡ None) ⊎ (old.lost ≡ true)
  pub calls : SameCalls old new
  pub places : SamePlaces old new

-- A record is received only if every answer that is ready was noted. Shown by nfs_client (run).
pub record Hears (old new : View) (x : ℕ) (r : Reply) : Type 0 where
  pub quiet : (l from : ℕ) (op : Op) (answer : Answer) → old.lane l ≡ busy from op (ready answer) → ⊥
  pub lanes : SameLanes old new
  pub adds : SameAdds old new
  pub opens : (l slot : ℕ) → new.opens l slot ≡ old.opens l slot
  pub how : Ignores old new x ⊎ (Took old new x r ⊎ Renews old new x r)

-- What an entry does to the client. Only a call that waits is sent (rpc_retry); the entries of the server do nothing.
abbrev pub Enters : ℕ → View → Entry → View → Type 0
Enters n old (Began l op) new = Starts old new n l op
Enters n old (Answered l answer) new = Answers old new l answer
Enters n old (Sent x call) new = (old.wait x ≡ Some call) × (new ≡ old)
Enters n old (Delivered x r) new = Hears old new x r
Enters n old (Executed x call r) new = new ≡ old
Enters n old (Foreign event) new = new ≡ old
Enters n old Reboot new = new ≡ old
Enters n old Failed new = new ≡ old
