-- What a count of calls has to show of each step of an operation, for a session to make no more of them than its operations need.
use Rattle.core_counts.proofs.Prelude.{◌≡◌, ◌≤◌, ◌+◌, ℕ, List, ◌∷◌, [], ◌++◌, length, Result, Ok, Err, false, Some, slice_get, Fault, Entry, Began, Call, Reply, Op, Heard, UnderWay, Says, Step, Send, Repeat, Shelf, Turn, ended, repeated, Mounted, Machine, machine_of, Starts, Resumes, Takes, Busy, Setup, View, in_flight, Reaches, Going, Calls}
use Rattle.world_model.specs.declared.answer.Fault.TheVariants as faults
use Rattle.core_answers.proofs.answers.PieceSteps.{IsPiece}

-- ---- what came

-- the record at the end of the history answers this call, which was first sent since the place x
pub record ToldNow (h : List Entry) (x : ℕ) (call : Call) (xid : ℕ) (rec : List ℕ) : Type 0 where
  pub heard : Heard h x (length h) call xid rec
  pub end : heard.got_at + 1 ≡ length h

-- why a call isn't made
abbrev pub IsUnmadeFault : Fault → Type 0
IsUnmadeFault faults.Spent = Unit {0}
IsUnmadeFault faults.Memory = Unit {0}
IsUnmadeFault fault = ⊥

-- What an operation takes: what the record says of a call for which it waited, or that the call wasn't made.
pub data Came (h : List Entry) (x : ℕ) (machine : Machine) (sent : Turn) (came : Result Reply Fault) (old : Shelf) : Type 0 where
  told : (call : Call) (xid : ℕ) (rec : List ℕ) → ToldNow h x call xid rec → Calls machine call → Says xid call rec came → sent.xid ≡ xid
      → ((reply : Reply) → came ≡ Ok reply → IsPiece sent.xid call old.back) → Came h x machine sent came old
  unmade : (call : Call) (fault : Fault) → Calls machine call → came ≡ Err fault → IsUnmadeFault fault → Came h x machine sent came old

-- ---- the measure of an operation: how many calls it may still ask for, those that are made again because the server is busy apart

-- A step leaves so much of the measure, that was `had`; each call that is counted takes one.
pub record Spends (P : Call → Type 0) (Left : List Entry → ℕ → Op → Machine → ℕ → Type 0) (h : List Entry) (x : ℕ) (op : Op) (had : ℕ) (next : Step) (new : Machine) : Type 0 where
  pub left : ℕ
  pub keeps : Going next (Left h x op new left)
  pub less : left ≤ had
  pub asks : (call : Call) → next ≡ Send call → P call → left + 1 ≤ had

-- A reply that gives one call more: it came now.
pub data Gains (Q : Call → ℕ → List ℕ → Type 0) (h : List Entry) (x : ℕ) (came : Result Reply Fault) (gain : ℕ) : Type 0 where
  nothing : gain ≡ 0 → Gains Q h x came gain
  one : gain ≡ 1 → (reply : Reply) → came ≡ Ok reply → (call : Call) (xid : ℕ) (rec : List ℕ) → ToldNow h x call xid rec → Q call xid rec → Gains Q h x came gain

-- A step at what came: it makes the call again, by the table of such calls, and then the measure is what it was; or it goes on.
pub data Took (P : Call → Type 0) (Q : Call → ℕ → List ℕ → Type 0) (Left : List Entry → ℕ → Op → Machine → ℕ → Type 0) (h : List Entry) (x : ℕ) (op : Op) (had : ℕ) (sent turn : Turn)
    (came : Result Reply Fault) (old : List Repeat) (next : Step) (new : Machine) (later : List Repeat) : Type 0 where
  again : later ≡ repeated sent.xid turn.xid old → (left : ℕ) → left ≤ had → Left h x op new left → Took P Q Left h x op had sent turn came old next new later
  on : later ≡ ended sent.xid old → (gain : ℕ) → Gains Q h x came gain → Spends P Left h x op (had + gain) next new → Took P Q Left h x op had sent turn came old next new later

-- The laws of a count: P are its calls, Q the replies that give one more, `is` the operations that it is of, `base` how many each of them may make at first, and
-- Left what is left to it.
pub record CountLaws (machine_of : ℕ → Op → Machine) (P : Call → Type 0) (Q : Call → ℕ → List ℕ → Type 0) (is : Op → Type 0) (base : Op → ℕ)
    (Left : List Entry → ℕ → Op → Machine → ℕ → Type 0) : Type 0 where
  pub starts : (h : List Entry) (lane line : ℕ) (op : Op) (wsize : ℕ) (turn : Turn) (old : Shelf) (next : Step) (new : Machine) (after : Shelf) → is op
      → Starts wsize (machine_of lane op) turn old next new after → Spends P Left (h ++ Began lane line op ∷ []) (length h) op (base op) next new
  pub resumes : (h : List Entry) (x : ℕ) (op : Op) (machine : Machine) (wsize : ℕ) (turn : Turn) (old : Shelf) (next : Step) (new : Machine) (after : Shelf) (had : ℕ) → is op
      → Left h x op machine had → Resumes wsize machine turn old next new after → Spends P Left h x op had next new
  pub takes : (h : List Entry) (x : ℕ) (op : Op) (machine : Machine) (wsize : ℕ) (sent turn : Turn) (came : Result Reply Fault) (old : Shelf) (next : Step) (new : Machine)
      (after : Shelf) (others had : ℕ) → is op → Left h x op machine had → in_flight machine ≡ others + 1 → Came h x machine sent came old
      → Takes wsize machine sent turn came old next new after → Took P Q Left h x op had sent turn came old.repeats next new after.repeats
  pub grows : (h : List Entry) (e : Entry) (x : ℕ) (op : Op) (machine : Machine) (left : ℕ) → Left h x op machine left → Left (h ++ e ∷ []) x op machine left

-- ---- the same, where it is known what stood as a record came

-- The core's view before the record, in which the operation was under way; and the session goes on to the history H.
pub record Before (m : Mounted) (setup : Setup) (H h : List Entry) (x : ℕ) (op : Op) (machine : Machine) (old : Shelf) : Type 0 where
  pub k : List Entry
  pub e : Entry
  pub is : h ≡ k ++ e ∷ []
  pub view : View
  pub reached : Reaches (machine_of m) setup k view
  pub found : view.lost ≡ false
  pub shelf : view.shelf ≡ old
  pub at : ℕ
  pub number : ℕ
  pub there : slice_get view.lanes at ≡ Some (record { number = number; state = Busy machine })
  pub under : UnderWay k number x (length k) op
  pub rest : List Entry
  pub goes : H ≡ h ++ rest

-- a record came; or the call wasn't made
pub data Seen (m : Mounted) (setup : Setup) (H h : List Entry) (x : ℕ) (op : Op) (machine : Machine) (came : Result Reply Fault) (old : Shelf) : Type 0 where
  came_now : Before m setup H h x op machine old → Seen m setup H h x op machine came old
  never_made : (fault : Fault) → came ≡ Err fault → Seen m setup H h x op machine came old

-- As `CountLaws`, but that a step at what came knows this too.
pub record SeenLaws (m : Mounted) (setup : Setup) (H : List Entry) (P : Call → Type 0) (Q : Call → ℕ → List ℕ → Type 0) (is : Op → Type 0) (base : Op → ℕ)
    (Left : List Entry → ℕ → Op → Machine → ℕ → Type 0) : Type 0 where
  pub starts : (h : List Entry) (lane line : ℕ) (op : Op) (wsize : ℕ) (turn : Turn) (old : Shelf) (next : Step) (new : Machine) (after : Shelf) → is op
      → Starts wsize (machine_of m lane op) turn old next new after → Spends P Left (h ++ Began lane line op ∷ []) (length h) op (base op) next new
  pub resumes : (h : List Entry) (x : ℕ) (op : Op) (machine : Machine) (wsize : ℕ) (turn : Turn) (old : Shelf) (next : Step) (new : Machine) (after : Shelf) (had : ℕ) → is op
      → Left h x op machine had → Resumes wsize machine turn old next new after → Spends P Left h x op had next new
  pub takes : (h : List Entry) (x : ℕ) (op : Op) (machine : Machine) (wsize : ℕ) (sent turn : Turn) (came : Result Reply Fault) (old : Shelf) (next : Step) (new : Machine)
      (after : Shelf) (others had : ℕ) → is op → Left h x op machine had → in_flight machine ≡ others + 1 → Came h x machine sent came old → Seen m setup H h x op machine came old
      → Takes wsize machine sent turn came old next new after → Took P Q Left h x op had sent turn came old.repeats next new after.repeats
  pub grows : (h : List Entry) (e : Entry) (x : ℕ) (op : Op) (machine : Machine) (left : ℕ) → Left h x op machine left → Left (h ++ e ∷ []) x op machine left

pub seen-laws : (m : Mounted) (setup : Setup) (H : List Entry) (P : Call → Type 0) (Q : Call → ℕ → List ℕ → Type 0) (is : Op → Type 0) (base : Op → ℕ)
    (Left : List Entry → ℕ → Op → Machine → ℕ → Type 0) → CountLaws (machine_of m) P Q is base Left → SeenLaws m setup H P Q is base Left
seen-laws m setup H P Q is base Left laws = record {
  starts = laws.starts;
  resumes = laws.resumes;
  takes = λ h x op machine wsize sent turn came old next new after others had fits left count c seen t.
      laws.takes h x op machine wsize sent turn came old next new after others had fits left count c t;
  grows = laws.grows;
}
