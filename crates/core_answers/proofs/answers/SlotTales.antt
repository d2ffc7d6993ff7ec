-- Stories of operations that know for which calls these wait, what their lane's slots hold as they begin, and what the shelf holds as a reply comes. It
-- is an instance of the engine in `core_facts` (`proofs/Telling`).
use Rattle.core_answers.proofs.Prelude.{HadStory, IsFresh, View, Purpose, State, Busy, Over, Setup, Step, Shelf, Turn, ExpectLaws, forget, Anything, passes-any, IsTold, IsQuiet, Did, in_flight, IsUnbegun, Reaches, IsMade, Starts, Resumes, Takes, Machine, waiting_at, Waiting, ◌≡◌, ◌+◌, ℕ, List, [], ◌∷◌, ◌++◌, length, false, Some, Result, Ok, Err, sym, ◌∙◌, IsLost, Ended, Answer, Refused, Fault, Entry, Began, Delivered, Call, Reply, Op}
use Rattle.core_facts.proofs.Tales.{told-heard, told-unmade}
use Rattle.core_facts.proofs.Telling.{Sight, CameOf, heard_of, unmade, TellLaws}
use Rattle.core_facts.specs.Reaches.{IsSetUp, MayHear}
use Rattle.core_facts.proofs.Stories.{IsGiven}
use Rattle.world_model.specs.declared.answer.Fault.TheVariants as faults
use Rattle.core_facts.proofs.Telling as telling

-- As a record may come Q holds of each call that waits, and of the step that made it, as long as the session isn't lost.
abbrev pub IsSeen : (ℕ → Op → Machine) → Setup → (List Entry → Turn → Call → Shelf → Type 0) → Type 0
IsSeen machine_of setup Q = (h : List Entry) (v : View) → Reaches machine_of setup h v → v.lost ≡ false → MayHear v → (xid : ℕ) (w : Waiting Purpose)
    → waiting_at xid v.calls.calls ≡ Some w → (made : IsMade setup.cred xid w) → Q h w.purpose.sent made.asked v.shelf

-- what came of a call, and Q of the call if it is a reply
pub record IsToldOf (Q : List Entry → Turn → Call → Shelf → Type 0) (E : Machine → Call → Type 0) (W : List Entry → ℕ → Op → Call → Type 0) (h : List Entry) (x : ℕ) (op : Op)
    (machine : Machine) (sent : Turn) (came : Result Reply Fault) (shelf : Shelf) : Type 0 where
  pub told : IsTold E W h x op machine came
  pub seen : (reply : Reply) → came ≡ Ok reply → Q h sent told.call shelf

-- The laws of a tale (`core_facts`), where more is known: P of the history and the shelf as the operation begins in its lane, and Q as a reply comes.
pub record SlotLaws (P : List Entry → ℕ → Shelf → Type 0) (Q : List Entry → Turn → Call → Shelf → Type 0) (machine_of : ℕ → Op → Machine) (setup : Setup) (E : Machine → Call → Type 0)
    (W : List Entry → ℕ → Op → Call → Type 0) (I : List Entry → Shelf → Type 0) (S : List Entry → ℕ → Op → State → Type 0) : Type 0 where
  pub fresh : (h : List Entry) (v : View) → IsSetUp setup h → IsFresh setup v → I h v.shelf
  pub starts : (h : List Entry) (lane line : ℕ) (op : Op) (wsize : ℕ) (turn : Turn) (old : Shelf) (next : Step) (new : Machine) (after : Shelf) → P h lane old
      → I (h ++ Began lane line op ∷ []) old → Starts wsize (machine_of lane op) turn old next new after → Did W I S (h ++ Began lane line op ∷ []) (length h) op next new after
  pub resumes : (h : List Entry) (x : ℕ) (op : Op) (machine : Machine) (wsize : ℕ) (turn : Turn) (old : Shelf) (next : Step) (new : Machine) (after : Shelf)
      → I h old → S h x op (Busy machine) → Resumes wsize machine turn old next new after → Did W I S h x op next new after
  pub takes : (h : List Entry) (x : ℕ) (op : Op) (machine : Machine) (wsize : ℕ) (sent turn : Turn) (came : Result Reply Fault) (old : Shelf) (next : Step) (new : Machine)
      (after : Shelf) (others : ℕ) → I h old → S h x op (Busy machine) → in_flight machine ≡ others + 1 → IsToldOf Q E W h x op machine sent came old
      → Takes wsize machine sent turn came old next new after → Did W I S h x op next new after
  pub seen : (h : List Entry) (e : Entry) (sent : Turn) (call : Call) (shelf : Shelf) → Q h sent call shelf → Q (h ++ e ∷ []) sent call shelf
  pub still : (h : List Entry) (e : Entry) (shelf : Shelf) → I h shelf → I (h ++ e ∷ []) shelf
  pub waits : (h : List Entry) (e : Entry) (x : ℕ) (op : Op) (call : Call) → W h x op call → W (h ++ e ∷ []) x op call
  pub grows : (h : List Entry) (e : Entry) (x : ℕ) (op : Op) (state : State) → IsQuiet state e → S h x op state → S (h ++ e ∷ []) x op state
  pub lost : (h : List Entry) (x : ℕ) (op : Op) → IsLost h (length h) → S h x op (Over (Refused faults.Lost))

module _ (machine_of : ℕ → Op → Machine) (unbegun : (lane : ℕ) (op : Op) → IsUnbegun (machine_of lane op)) (setup : Setup) (P : List Entry → ℕ → Shelf → Type 0)
    (given : IsGiven machine_of setup P) (Q : List Entry → Turn → Call → Shelf → Type 0) (sees : IsSeen machine_of setup Q) (E : Machine → Call → Type 0) (expected : ExpectLaws E)
    (W : List Entry → ℕ → Op → Call → Type 0) (I : List Entry → Shelf → Type 0) (S : List Entry → ℕ → Op → State → Type 0) (laws : SlotLaws P Q machine_of setup E W I S) where
  abbrev Seen_ : Sight
  Seen_ h x op machine from sent turn call shelf = Q h sent call shelf

  pub seen-now : telling.IsSeenBy machine_of setup Anything S Seen_
  seen-now h v p found may xid w waits made at machine there x op u from out story rec =
      laws.seen h (Delivered rec) w.purpose.sent made.asked v.shelf (sees h v (forget machine_of setup Anything h v p) found may xid w waits made)

  told-so : (h : List Entry) (x : ℕ) (op : Op) (machine : Machine) (sent turn : Turn) (came : Result Reply Fault) (shelf : Shelf) → CameOf Seen_ E W h x op machine sent turn came shelf
      → IsToldOf Q E W h x op machine sent came shelf
  told-so h x op machine sent turn came shelf (heard_of t) = record { told = told-heard Seen_ E W h x op machine sent turn came shelf t; seen = λ reply is. t.seen }
  told-so h x op machine sent turn came shelf (unmade call e fault is u w) = record {
    told = told-unmade Seen_ E W h x op machine sent turn came shelf call e fault is u w;
    seen = λ reply ok. absurd (let no_way : ◌≡◌ {A = Result Reply Fault} (Err fault) (Ok reply) = sym is ∙ ok in cc);
  }

  pub tell-laws : TellLaws P Seen_ machine_of setup E W I S
  tell-laws = record {
    fresh = laws.fresh;
    starts = laws.starts;
    resumes = laws.resumes;
    takes = λ h x op machine wsize sent turn came old next new after others shelf state count told.
        laws.takes h x op machine wsize sent turn came old next new after others shelf state count (told-so h x op machine sent turn came old told);
    still = laws.still;
    waits = laws.waits;
    grows = laws.grows;
    lost = laws.lost;
  }

  pub reached-answered : (h : List Entry) (v : View) → Reaches machine_of setup h v → (lane x : ℕ) (op : Op) (y : ℕ) (answer : Answer) → Ended h lane x op y answer
      → HadStory (λ k z o b. S k z o (Over b)) h x op y answer
  reached-answered h v r = telling.reached-answered-by machine_of unbegun setup Anything P given Seen_ S seen-now E expected W I tell-laws h v (passes-any machine_of setup h v r)
