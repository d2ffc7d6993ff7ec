-- What is known of the reply that an operation takes: which call it answers, and when and where that was first sent.
use Rattle.core_answers.proofs.Prelude.{◌≡◌, ◌<◌, ◌≤◌, ◌+◌, ℕ, zero, suc, List, [], ◌∷◌, ◌++◌, length, take, Result, Ok, refl, ap, arith, Fault, Entry, Call, Reply, At, HasXid, SpellsReply, Step, Wait, Shelf, Turn, Machine, Starts, Resumes, Takes, State, Busy, Over, in_flight, IsCounted, AskedOf, HadShown, IsAnswered, EndsWith, IsDelivered}
use Rattle.world_model.specs.declared.entry.Entry.TheVariants.{Sent}
use Rattle.core_answers.proofs.bonds.FileCalls.{Asking}
use Rattle.core_answers.specs.bonds.Ages.{began_at}

-- The call was answered so, and was first sent after the clock had shown this time.
pub record WasTold (h : List Entry) (call : Call) (ms : ℕ) (reply : Reply) : Type 0 where
  pub since : ℕ
  pub timed : HadShown h since ms
  pub answered : IsAnswered h since (length h) call reply

-- what came of a call that was made at a time: a reply to it is in the history
abbrev pub IsTold : List Entry → Call → ℕ → Result Reply Fault → Type 0
IsTold h call ms came = (reply : Reply) → came ≡ Ok reply → WasTold h call ms reply

-- It holds of each call that a step asks for, and goes on holding of those that wait.
pub record AskLaws (E : Machine → Call → Type 0) : Type 0 where
  pub starts : (m : Machine) (wsize : ℕ) (turn : Turn) (old : Shelf) (next : Step) (new : Machine) (after : Shelf) → Starts wsize m turn old next new after → AskedOf E next new
  pub resumes : (m : Machine) (wsize : ℕ) (turn : Turn) (old : Shelf) (next : Step) (new : Machine) (after : Shelf) → IsCounted m → (next ≡ Wait → ⊥)
      → Resumes wsize m turn old next new after → Asking E (E m) (in_flight m) next new
  pub takes : (m : Machine) (wsize : ℕ) (sent turn : Turn) (came : Result Reply Fault) (old : Shelf) (next : Step) (new : Machine) (after : Shelf) (others : ℕ)
      → in_flight m ≡ others + 1 → Takes wsize m sent turn came old next new after → Asking E (E m) others next new

-- A fact of the shelf that the steps of operations keep, and each entry.
pub record ShelfLaws (E : Machine → Call → Type 0) (K : List Entry → Shelf → Type 0) : Type 0 where
  pub starts : (h : List Entry) (machine : Machine) (wsize : ℕ) (turn : Turn) (old : Shelf) (next : Step) (new : Machine) (after : Shelf)
      → Starts wsize machine turn old next new after → K h old → K h after
  pub resumes : (h : List Entry) (machine : Machine) (wsize : ℕ) (turn : Turn) (old : Shelf) (next : Step) (new : Machine) (after : Shelf)
      → Resumes wsize machine turn old next new after → K h old → K h after
  pub takes : (h : List Entry) (machine : Machine) (call : Call) (wsize : ℕ) (sent turn : Turn) (came : Result Reply Fault) (old : Shelf) (next : Step) (new : Machine) (after : Shelf)
      → E machine call → IsTold h call sent.now came → Takes wsize machine sent turn came old next new after → K h old → K h after
  pub grows : (h : List Entry) (e : Entry) (shelf : Shelf) → K h shelf → K (h ++ e ∷ []) shelf

-- the time at which the operation at a place began isn't later
abbrev pub IsLate : List Entry → ℕ → ℕ → Type 0
IsLate h x now = began_at h x ≤ now

-- the same of a call that was made since the operation at a place began
pub record ToldSince (h : List Entry) (x : ℕ) (call : Call) (ms : ℕ) (reply : Reply) : Type 0 where
  pub told : WasTold h call ms reply
  pub later : x < told.since

-- each record of the call was sent at this place or after it
abbrev pub IsAfter : List Entry → ℕ → ℕ → Type 0
IsAfter h xid place = (i : ℕ) (bytes : List ℕ) → At h i (Sent bytes) → HasXid bytes xid → place ≤ i

-- A reply to the call, the last record that came; the call was first sent since the operation at the place x began, and at the given place or after it.
pub record ToldLast (h : List Entry) (x place : ℕ) (call : Call) (ms : ℕ) (reply : Reply) : Type 0 where
  pub since : ToldSince h x call ms reply
  pub later : place ≤ since.told.since
  pub ends : EndsWith h x (length h) call reply
  pub only : (other : Reply) → SpellsReply ends.last.xid call other ends.last.bytes → other ≡ reply

-- an operation that has its answer sees no further record
abbrev pub IsQuiet : State → Entry → Type 0
IsQuiet (Busy machine) e = Unit {0}
IsQuiet (Over answer) e = IsDelivered e → ⊥

pub quiet-entry : (e : Entry) → (IsDelivered e → ⊥) → (state : State) → IsQuiet state e
quiet-entry e other (Busy machine) = tt
quiet-entry e other (Over answer) = other

pub take-early : (h more : List Entry) (x : ℕ) → x ≤ length h → take x (h ++ more) ≡ take x h
take-early h more zero le = refl
take-early [] more (suc x) le = absurd (omega (arith, le))
take-early (e ∷ h) more (suc x) le = ap (λ (t : List Entry). e ∷ t) (take-early h more x (omega (arith, le)))

pub take-whole : (h : List Entry) → take (length h) h ≡ h
take-whole [] = refl
take-whole (e ∷ h) = ap (λ (t : List Entry). e ∷ t) (take-whole h)
