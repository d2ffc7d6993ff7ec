-- Which operations write a byte of a file, and what else may change it.
use Rattle.std.specs.Prelude.{◌≡◌, ◌≢◌, ◌<◌, ◌≤◌, ◌+◌, ℕ, suc, true, List, length, Option, Some, slice_get}
use Rattle.nfs_types.specs.declared.attr.Attr.{Attr}
use Rattle.nfs_types.specs.declared.set_attr.SetAttr.{SetAttr}
use Rattle.nfs_types.specs.declared.time.Time.{Time}
use Rattle.nfs_types.specs.declared.wcc.Wcc.{Wcc}
use Rattle.nfs_dir_calls.specs.declared.call.DirCall.TheVariants as dirs
use Rattle.nfs_dir_calls.specs.declared.create.Making.TheVariants as makings
use Rattle.nfs_dir_calls.specs.declared.keeping.DirKept.TheVariants as found
use Rattle.nfs_file_calls.specs.declared.call.FileCall.TheVariants as files
use Rattle.nfs_file_calls.specs.declared.owned.FileKept.TheVariants as kept
use Rattle.world_model.specs.declared.answer.Answer.{Answer}
use Rattle.world_model.specs.declared.answer.Answer.TheVariants.{Done, Refused}
use Rattle.world_model.specs.declared.answer.Fault.{Fault}
use Rattle.world_model.specs.declared.answer.Value.{Value}
use Rattle.world_model.specs.declared.entry.Entry.{Entry}
use Rattle.world_model.specs.declared.entry.Entry.TheVariants.{Began, Answered, Foreign}
use Rattle.world_model.specs.declared.message.Call.{Call}
use Rattle.world_model.specs.declared.message.Call.TheVariants as calls
use Rattle.world_model.specs.declared.message.Reply.{Reply}
use Rattle.world_model.specs.declared.message.Reply.TheVariants as replies
use Rattle.world_model.specs.declared.op.Op.TheVariants as ops
use Rattle.world_model.specs.Entries.{At}
use Rattle.world_model.specs.History.{History}
use Rattle.world_model.specs.Leads.{Leads}
use Rattle.claims.specs.Modes.{Modes}
use Rattle.world_model.specs.Mounts.{Origin}
use Rattle.world_model.specs.Server.{Object, Server, HasName}
use Rattle.world_model.specs.Operations.{Ended, AnsweredBefore, EndsAt, NoneCame}
use Rattle.claims.specs.Slots.{InSlot, IsOf, PutsTo}

-- ---- this client's operations

-- bytes at an offset hold this one at the place i
pub record Covers (offset : ℕ) (bytes : List ℕ) (i v : ℕ) : Type 0 where
  pub k : ℕ
  pub place : i ≡ offset + k
  pub byte : slice_get bytes k ≡ Some v

-- The operation at the place x writes this byte at the place i of the file, whatever becomes of it. A put is of the file
-- to which its path leads by its end.
pub data WritesByte (m : Modes) (origin : Origin) (h : List Entry) (x : ℕ) (f : List ℕ) (i v : ℕ) : Type 0 where
  write : (slot offset : ℕ) (bytes : List ℕ) → IsOf m h x (ops.Write slot offset bytes) f → Covers offset bytes i v → WritesByte m origin h x f i v
  fill : (slot offset count : ℕ) → IsOf m h x (ops.Fill slot offset count v) f → offset ≤ i → i < offset + count → WritesByte m origin h x f i v
  put : (lane line offset n : ℕ) (path : List (List ℕ)) (bytes : List ℕ) → At h x (Began lane line (ops.Put path offset bytes)) → EndsAt h x n
      → Leads origin h n path f → Covers offset bytes i v
      → WritesByte m origin h x f i v

-- The operation is a truncate of the file to a size of at most i.
pub record Cuts (m : Modes) (h : List Entry) (x : ℕ) (f : List ℕ) (i : ℕ) : Type 0 where
  pub slot : ℕ
  pub size : ℕ
  pub of : IsOf m h x (ops.Truncate slot size) f
  pub low : size ≤ i

-- a write or fill that was refused
pub data RefusedWrite (h : List Entry) (x : ℕ) : Type 0 where
  write : (lane slot offset y : ℕ) (bytes : List ℕ) (fault : Fault) → Ended h lane x (ops.Write slot offset bytes) y (Refused fault) → RefusedWrite h x
  fill : (lane slot offset count byte y : ℕ) (fault : Fault) → Ended h lane x (ops.Fill slot offset count byte) y (Refused fault) → RefusedWrite h x

-- The write, fill or put at the place x succeeded at the place y: it put this byte at the place i of the file.
pub data Wrote (m : Modes) (h : List Entry) (x y : ℕ) (f : List ℕ) (i v : ℕ) : Type 0 where
  write : (lane slot offset : ℕ) (bytes : List ℕ) (value : Value) → IsOf m h x (ops.Write slot offset bytes) f
      → Ended h lane x (ops.Write slot offset bytes) y (Done value) → Covers offset bytes i v → Wrote m h x y f i v
  fill : (lane slot offset count : ℕ) (value : Value) → IsOf m h x (ops.Fill slot offset count v) f
      → Ended h lane x (ops.Fill slot offset count v) y (Done value) → offset ≤ i → i < offset + count → Wrote m h x y f i v
  put : (offset : ℕ) (bytes : List ℕ) → PutsTo h x y f offset bytes → Covers offset bytes i v → Wrote m h x y f i v

-- the truncate at the place x of the file to this size succeeded at the place y
pub record Truncated (m : Modes) (h : List Entry) (x y : ℕ) (f : List ℕ) (size : ℕ) : Type 0 where
  pub lane : ℕ
  pub slot : ℕ
  pub value : Value
  pub of : IsOf m h x (ops.Truncate slot size) f
  pub ended : Ended h lane x (ops.Truncate slot size) y (Done value)

-- the sync, close or put of the file at the place x succeeded at the place y
pub data MadeStable (m : Modes) (h : List Entry) (x y : ℕ) (f : List ℕ) : Type 0 where
  sync : (lane slot : ℕ) (value : Value) → IsOf m h x (ops.Sync slot) f → Ended h lane x (ops.Sync slot) y (Done value) → MadeStable m h x y f
  close : (lane slot : ℕ) (value : Value) → IsOf m h x (ops.Close slot) f → Ended h lane x (ops.Close slot) y (Done value) → MadeStable m h x y f
  put : (offset : ℕ) (bytes : List ℕ) → PutsTo h x y f offset bytes → MadeStable m h x y f

-- ---- the last close

-- At the place k a close of the file was answered, and after it no slot holds the file.
pub record Left (m : Modes) (h : List Entry) (k : ℕ) (f : List ℕ) : Type 0 where
  pub lane : ℕ
  pub slot : ℕ
  pub close : ℕ
  pub answer : Answer
  pub of : IsOf m h close (ops.Close slot) f
  pub ended : Ended h lane close (ops.Close slot) k answer
  pub last : (other its_slot x : ℕ) → InSlot m h (suc k) other its_slot x f → ⊥

-- This close was refused, or another one of the file just before it: no record came between.
pub data GivesUp (m : Modes) (h : List Entry) (k : ℕ) (f : List ℕ) : Type 0 where
  itself : (lane line : ℕ) (fault : Fault) → At h k (Answered lane line (Refused fault)) → GivesUp m h k f
  beside : (lane slot c j : ℕ) (fault : Fault) → IsOf m h c (ops.Close slot) f → Ended h lane c (ops.Close slot) j (Refused fault) → j < k → NoneCame h j k
      → GivesUp m h k f

-- a put that was answered before the place k
pub record IsAnsweredPut (h : List Entry) (w k : ℕ) : Type 0 where
  pub lane : ℕ
  pub path : List (List ℕ)
  pub offset : ℕ
  pub bytes : List ℕ
  pub y : ℕ
  pub answer : Answer
  pub ended : Ended h lane w (ops.Put path offset bytes) y answer
  pub before : y < k

-- Since the write at the place w was answered, the file was made stable by the place k.
pub record StableSince (m : Modes) (h : List Entry) (w k : ℕ) (f : List ℕ) : Type 0 where
  pub x : ℕ
  pub y : ℕ
  pub after : AnsweredBefore h w x
  pub made : MadeStable m h x y f
  pub by : y ≤ k

-- the last close at the place k gave up what was pending of the write at the place w
pub record GivenUp (m : Modes) (h : List Entry) (w k : ℕ) (f : List ℕ) : Type 0 where
  pub left : Left m h k f
  pub refused : GivesUp m h k f
  pub unstable : StableSince m h w k f → ⊥
  pub unanswered : IsAnsweredPut h w k → ⊥

-- ---- other clients

-- A WRITE had the place i of the file in its range, whatever it was answered; or a call that was answered 0 set the
-- file's size to at most i.
pub data ChangesPlace (t : Server) (f : List ℕ) (i : ℕ) (call : Call) (reply : Reply) : Type 0 where
  writes : (offset how : ℕ) (bytes : List ℕ) → call ≡ calls.File (files.Write f offset how bytes) → offset ≤ i → i < offset + length bytes
      → ChangesPlace t f i call reply
  sizes : (set : SetAttr) (size : ℕ) (guard : Option Time) (wcc : Wcc) → call ≡ calls.File (files.SetAttr f set guard)
      → reply ≡ replies.File (kept.SetAttr wcc) → set.size ≡ Some size → size ≤ i → ChangesPlace t f i call reply
  makes : (d name : List ℕ) (set : SetAttr) (size : ℕ) (file : Option (List ℕ)) (attr : Option Attr) (wcc : Wcc)
      → call ≡ calls.Dir (dirs.Create d name (makings.Unchecked set)) → reply ≡ replies.Dir (found.Create file attr wcc) → HasName t d name f
      → set.size ≡ Some size → size ≤ i → ChangesPlace t f i call reply

-- ---- what may change a byte

-- After the write at the place w and before the moment p the place i of the file may have been changed: by another
-- client; by another operation of this one, which wasn't answered before w; since the file is gone; or since a last close
-- gave up what was pending of w, if w isn't a put that was answered before.
pub data Touched (m : Modes) (origin : Origin) (t : History) (w p : ℕ) (f : List ℕ) (i : ℕ) : Type 0 where
  foreign : (n : ℕ) (call : Call) (reply : Reply) → w < n → n < p → At t.entries n (Foreign call reply) → ChangesPlace (t.at (suc n)) f i call reply
      → Touched m origin t w p f i
  written : (x v : ℕ) → x ≢ w → x < p → (AnsweredBefore t.entries x w → ⊥) → WritesByte m origin t.entries x f i v → (RefusedWrite t.entries x → ⊥)
      → Touched m origin t w p f i
  cut : (x : ℕ) → x ≢ w → x < p → (AnsweredBefore t.entries x w → ⊥) → Cuts m t.entries x f i → Touched m origin t w p f i
  gone : (o : Object) → (t.at p).object f ≡ Some o → o.gone ≡ true → Touched m origin t w p f i
  given_up : (k : ℕ) → w < k → k < p → GivenUp m t.entries w k f → Touched m origin t w p f i
