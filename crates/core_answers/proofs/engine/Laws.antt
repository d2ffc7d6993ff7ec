-- The laws of facts that the steps of operations keep, with what is known of each step.
use Rattle.core_answers.proofs.Prelude.{◌≡◌, ◌<◌, ◌≤◌, ◌+◌, ◌-◌, ◌⊎◌, inl, ℕ, List, [], ◌∷◌, ◌++◌, length, false, Some, position, slice_get, Result, Ok, arith, xid_at, Waiting, waiting_at, Refused, Fault, Answer, Entry, Began, Delivered, Call, Reply, Op, At, IsLost, UnderWay, HasXid, said_of, Step, Send, Wait, Done, Shelf, Turn, Machine, Starts, Resumes, Takes, Purpose, State, Busy, Over, Setup, is_busy, Stirs, counted, TakesAt, StartsLane, View, in_flight, StepsTo, Reaches, taken_one, ThenOf, time_next, IsDelivered, IsIdle, Passes}
use Rattle.world_model.specs.declared.entry.Entry.TheVariants.{Sent}
use Rattle.client_core.specs.Steps.{lost}
use Rattle.core_facts.specs.Reaches.{HearsRecord}
use Rattle.op_machines.specs.Fits.{Fits}
use Rattle.core_facts.proofs.Keeping.{Known as Viewed}
use Rattle.core_answers.proofs.engine.Told.{IsLate, ToldLast}
use Rattle.core_answers.proofs.pages.FilePages.{IsSentAs}
use Rattle.world_model.specs.declared.answer.Fault.TheVariants as faults

-- ---- what is known of the views on the way

-- A fact of each view through which the core passes: it holds at rest, and each step of a lane keeps it, also where an operation begins or a reply comes.
pub record KeepsAround (machine_of : ℕ → Op → Machine) (setup : Setup) (A : List Entry → View → Type 0) : Type 0 where
  pub at_rest : (h : List Entry) (v : View) → Reaches machine_of setup h v → v.lost ≡ false → A h v
  pub stirs : (h : List Entry) (old new : View) (at : ℕ) → Viewed setup h old → Passes machine_of setup h old → Stirs old at new → A h old → A h new
  pub starts : (h : List Entry) (old new : View) (lane line : ℕ) (op : Op) (now : ℕ) → Reaches machine_of setup h old → old.lost ≡ false → Viewed setup h old
      → IsIdle lane old.lanes → Fits (machine_of lane op) → StartsLane (counted old now) lane (machine_of lane op) new → A h old → A (h ++ Began lane line op ∷ []) new
  pub takes : (h : List Entry) (old new : View) (rec : List ℕ) (xid : ℕ) (call : Waiting Purpose) (at : ℕ) → Reaches machine_of setup h old → old.lost ≡ false
      → Viewed setup h old → (fin : View) → HearsRecord old rec fin → xid_at rec ≡ Some xid → waiting_at xid old.calls.calls ≡ Some call
      → position (is_busy call.purpose.lane) old.lanes ≡ Some at → TakesAt (taken_one old xid) at call.purpose.sent (said_of call.purpose.proc rec) new → A h old
      → A (h ++ Delivered rec ∷ []) new

-- Facts that tell how the session goes on: R at rest, Q of each view through which the core passes. They go from later views to earlier ones.
pub record GoesBack (machine_of : ℕ → Op → Machine) (setup : Setup) (R Q : List Entry → View → Type 0) : Type 0 where
  pub rest : (h : List Entry) (v : View) → Reaches machine_of setup h v → R h v → Q h v
  pub stirs : (h : List Entry) (old new : View) (at : ℕ) → Stirs old at new → Q h new → Q h old
  pub steps : (h : List Entry) (old : View) (e : Entry) (new : View) → StepsTo machine_of h old e new → Reaches machine_of setup h old → R (h ++ e ∷ []) new → R h old
  pub drops : (h : List Entry) (old new : View) → Reaches machine_of setup h old → new ≡ lost old → R h new → R h old

-- nothing is asked
abbrev pub Anyhow : List Entry → View → Type 0
Anyhow h v = Unit {0}

pub anyhow-around : (mo : ℕ → Op → Machine) (setup : Setup) → KeepsAround mo setup Anyhow
anyhow-around mo setup = record {
  at_rest = λ h v r found. tt;
  stirs = λ h old new at known passed stirs w. tt;
  starts = λ h old new lane line op now r found known idle fits starts w. tt;
  takes = λ h old new rec xid call at r found known fin hears named waits there takes w. tt;
}

pub anyhow-back : (mo : ℕ → Op → Machine) (setup : Setup) → GoesBack mo setup Anyhow Anyhow
anyhow-back mo setup = record { rest = λ h v r on. tt; stirs = λ h old new at t on. tt; steps = λ h old e new t r on. tt; drops = λ h old new r is on. tt }

pub anyhow-gives : (h : List Entry) (v : View) → Anyhow h v → Anyhow h v → Anyhow h v
anyhow-gives h v a q = tt

-- ---- what is known of a step

-- This is the shelf of a view through which the core passed since the place x, of which the fact is known.
pub record HasPassed (machine_of : ℕ → Op → Machine) (setup : Setup) (G : List Entry → View → Type 0) (h : List Entry) (x : ℕ) (shelf : Shelf) : Type 0 where
  pub before : List Entry
  pub after : List Entry
  pub is : h ≡ before ++ after
  pub late : x ≤ length before
  pub view : View
  pub passed : Passes machine_of setup before view
  pub same : view.shelf ≡ shelf
  pub good : G before view

-- In this view the machine is that of the operation at the place x, which is under way.
pub record RunsIn (before : List Entry) (view : View) (x : ℕ) (op : Op) (machine : Machine) : Type 0 where
  pub at : ℕ
  pub number : ℕ
  pub there : slice_get view.lanes at ≡ Some (record { number = number; state = Busy machine })
  pub under_way : UnderWay before number x (length before) op

-- What is known where the reply to a call is taken: it was told, and where the call is a WRITE, what is in flight is what it writes. The call waited in the
-- view under an xid, and was first sent with these bytes.
pub record TakenNow (machine_of : ℕ → Op → Machine) (setup : Setup) (G : List Entry → View → Type 0) (h : List Entry) (x place : ℕ) (call : Call) (sent turn : Turn) (shelf : Shelf)
    (reply : Reply) : Type 0 where
  pub told : ToldLast h x place call sent.now reply
  pub link : IsSentAs sent.xid call shelf.back
  pub passed : HasPassed machine_of setup G h x shelf
  pub soon : passed.view.moments ≤ turn.moment - 1
  pub xid : ℕ
  pub waiting : Waiting Purpose
  pub waits : waiting_at xid passed.view.calls.calls ≡ Some waiting
  pub sent_is : waiting.purpose.sent ≡ sent
  pub bytes : List ℕ
  pub sent_at : At passed.before told.since.told.since (Sent bytes)
  pub under : HasXid bytes xid

-- What a step leaves: K of the shelf, T of the machine or U of the answer.
pub record Did (K : List Entry → Shelf → Type 0) (T : Machine → Type 0) (U : Answer → Type 0) (h : List Entry) (next : Step) (new : Machine) (after : Shelf) : Type 0 where
  pub kept : K h after
  pub then_ : ThenOf T U next new

-- the same of a fact of the operation
abbrev pub DidOf : (List Entry → Shelf → Type 0) → (List Entry → ℕ → Op → State → Type 0) → List Entry → ℕ → Op → Step → Machine → Shelf → Type 0
DidOf K S h x op next new after = Did K (λ m. S h x op (Busy m)) (λ a. S h x op (Over a)) h next new after

-- What a step leaves that took a reply: a fact with a place at or after which each call that still waits was first sent. It is the earlier place, or
-- any one where no other call waits.
pub record FromPlace (h : List Entry) (others was : ℕ) (B : ℕ → Type 0) : Type 0 where
  pub place : ℕ
  pub within : place ≤ length h
  pub fits : (place ≤ was) ⊎ (others ≡ 0)
  pub holds : B place

-- the earlier place serves
pub then-placed : (h : List Entry) (others was : ℕ) (T : Machine → Type 0) (U : Answer → Type 0) (next : Step) (new : Machine) → was ≤ length h → ThenOf T U next new
    → ThenOf (λ k. FromPlace h others was (λ n. T k)) U next new
then-placed h others was T U (Send call) new within t = record { place = was; within = within; fits = inl (omega arith); holds = t }
then-placed h others was T U Wait new within t = record { place = was; within = within; fits = inl (omega arith); holds = t }
then-placed h others was T U (Done answer) new within t = t

-- A fact K of the shelf; B of an operation under way, which began at a place, and knows of a place at or after which each of its calls that wait was first
-- sent; and O of one that has its answer: its steps keep them, and entries. F is known of the shelf as an operation of a lane begins.
pub record LaneLaws (machine_of : ℕ → Op → Machine) (setup : Setup) (G : List Entry → View → Type 0) (E : Machine → Call → Type 0) (F : List Entry → ℕ → Shelf → Type 0)
    (K : List Entry → Shelf → Type 0) (B : List Entry → ℕ → ℕ → Op → Machine → Type 0) (O : List Entry → ℕ → Op → Answer → Type 0) : Type 0 where
  pub starts : (h : List Entry) (lane line : ℕ) (op : Op) (wsize : ℕ) (turn : Turn) (old : Shelf) (next : Step) (new : Machine) (after : Shelf)
      → F h lane old → (p : HasPassed machine_of setup G (h ++ Began lane line op ∷ []) (length h) old) → p.before ≡ h → K (h ++ Began lane line op ∷ []) old → time_next h ≤ turn.now
      → Starts wsize (machine_of lane op) turn old next new after
      → Did K (B (h ++ Began lane line op ∷ []) (length h) (length h) op) (O (h ++ Began lane line op ∷ []) (length h) op) (h ++ Began lane line op ∷ []) next new after
  pub resumes : (h : List Entry) (place x : ℕ) (op : Op) (machine : Machine) (wsize : ℕ) (turn : Turn) (old : Shelf) (next : Step) (new : Machine) (after : Shelf)
      → K h old → (p : HasPassed machine_of setup G h x old) → RunsIn p.before p.view x op machine → x < length h → place ≤ length h → IsLate h x turn.now → B h place x op machine
      → Resumes wsize machine turn old next new after → Did K (B h place x op) (O h x op) h next new after
  pub takes : (h : List Entry) (place x : ℕ) (op : Op) (machine : Machine) (call : Call) (wsize : ℕ) (sent turn : Turn) (came : Result Reply Fault) (old : Shelf) (next : Step)
      (new : Machine) (after : Shelf) (others : ℕ) → K h old → x < length h → place ≤ length h → IsLate h x turn.now → in_flight machine ≡ others + 1 → B h place x op machine
      → E machine call
      → ((reply : Reply) → came ≡ Ok reply → (w : TakenNow machine_of setup G h x place call sent turn old reply) × RunsIn w.passed.before w.passed.view x op machine)
      → Takes wsize machine sent turn came old next new after → Did K (λ k. FromPlace h others place (λ n. B h n x op k)) (O h x op) h next new after
  pub still : (h : List Entry) (e : Entry) (shelf : Shelf) → K h shelf → K (h ++ e ∷ []) shelf
  pub grows : (h : List Entry) (e : Entry) (place x : ℕ) (op : Op) (machine : Machine) → B h place x op machine → B (h ++ e ∷ []) place x op machine
  pub stays : (h : List Entry) (e : Entry) (x : ℕ) (op : Op) (answer : Answer) → (IsDelivered e → ⊥) → O h x op answer → O (h ++ e ∷ []) x op answer
  pub lost : (h : List Entry) (x : ℕ) (op : Op) → IsLost h (length h) → O h x op (Refused faults.Lost)
