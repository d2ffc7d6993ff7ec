-- What is known of a step of an operation, and the laws of a fact of the shelf and of the operation that steps and entries keep: what a step takes is known
-- to answer the call that it waits for, and where that is a WRITE, what is in flight under its xid is what it writes. Of each view between the steps a
-- fact is known that is kept along the history by itself.
use Rattle.core_session.proofs.Prelude.{◌≡◌, ◌<◌, ◌≤◌, ◌-◌, ℕ, List, [], ◌∷◌, ◌++◌, length, Result, Ok, Refused, Fault, Entry, Began, Call, Reply, Op, Step, Shelf, Turn, machine_of, Machine, Starts, Resumes, Takes, State, Busy, Over, Setup, View, IsSentAs, HasPassed, RunsIn}
use Rattle.core_answers.proofs.engine.Laws.{DidOf}
use Rattle.world_model.specs.Lost.{IsLost}
use Rattle.core_session.proofs.current.Moments.{IsMoment}
use Rattle.core_answers.proofs.engine.Told.{IsLate, ToldSince}
use Rattle.core_answers.specs.bonds.Ages.{time_next}
use Rattle.world_model.specs.declared.answer.Fault.TheVariants as faults

-- What is known where the reply to a call is taken: it was told, and where the call is a WRITE, what is in flight is what it writes. It was first sent
-- after each place with an earlier moment.
pub record WasTaken (machine_of : ℕ → Op → Machine) (setup : Setup) (I : List Entry → View → Type 0) (h : List Entry) (x : ℕ) (call : Call) (sent turn : Turn) (shelf : Shelf) (reply : Reply)
    : Type 0 where
  pub since : ToldSince h x call sent.now reply
  pub link : IsSentAs sent.xid call shelf.back
  pub passed : HasPassed machine_of setup I h x shelf
  pub soon : passed.view.moments ≤ turn.moment - 1
  pub after : (o k : ℕ) → IsMoment passed.before passed.view o k → k < sent.moment → o < since.told.since

-- A fact of the shelf, and one of an operation, which began at a place, that steps keep, and each entry. F is known of the shelf as an operation of a lane
-- begins.
pub record BondLaws (machine_of : ℕ → Op → Machine) (setup : Setup) (I : List Entry → View → Type 0) (E : Machine → Call → Type 0) (F : List Entry → ℕ → Shelf → Type 0) (K : List Entry → Shelf → Type 0)
    (S : List Entry → ℕ → Op → State → Type 0) : Type 0 where
  pub starts : (h : List Entry) (lane line : ℕ) (op : Op) (wsize : ℕ) (turn : Turn) (old : Shelf) (next : Step) (new : Machine) (after : Shelf)
      → F h lane old → (p : HasPassed machine_of setup I (h ++ Began lane line op ∷ []) (length h) old) → p.before ≡ h → K (h ++ Began lane line op ∷ []) old → time_next h ≤ turn.now → Starts wsize (machine_of lane op) turn old next new after
      → DidOf K S (h ++ Began lane line op ∷ []) (length h) op next new after
  pub resumes : (h : List Entry) (x : ℕ) (op : Op) (machine : Machine) (wsize : ℕ) (turn : Turn) (old : Shelf) (next : Step) (new : Machine) (after : Shelf)
      → K h old → (p : HasPassed machine_of setup I h x old) → RunsIn p.before p.view x op machine → x < length h → IsLate h x turn.now → S h x op (Busy machine) → Resumes wsize machine turn old next new after → DidOf K S h x op next new after
  pub takes : (h : List Entry) (x : ℕ) (op : Op) (machine : Machine) (call : Call) (wsize : ℕ) (sent turn : Turn) (came : Result Reply Fault) (old : Shelf) (next : Step)
      (new : Machine) (after : Shelf) → K h old → x < length h → IsLate h x turn.now → S h x op (Busy machine) → E machine call
      → ((reply : Reply) → came ≡ Ok reply → (w : WasTaken machine_of setup I h x call sent turn old reply) × RunsIn w.passed.before w.passed.view x op machine) → Takes wsize machine sent turn came old next new after
      → DidOf K S h x op next new after
  pub still : (h : List Entry) (e : Entry) (shelf : Shelf) → K h shelf → K (h ++ e ∷ []) shelf
  pub grows : (h : List Entry) (e : Entry) (x : ℕ) (op : Op) (state : State) → S h x op state → S (h ++ e ∷ []) x op state
  pub lost : (h : List Entry) (x : ℕ) (op : Op) → IsLost h (length h) → S h x op (Over (Refused faults.Lost))
