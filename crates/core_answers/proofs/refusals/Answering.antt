-- Stories of operations that know for which calls these wait, what their lane's slots hold as they begin, and of each call that is answered for which
-- operation it was sent, and where. It is an instance of the engine in `core_facts` (`proofs/Telling`).
use Rattle.core_answers.proofs.Prelude.{HadStory, IsFresh, View, Purpose, State, Busy, Over, Setup, Step, Shelf, Turn, ExpectLaws, forget, Anything, passes-any, IsQuiet, Did, in_flight, IsUnbegun, Reaches, IsMade, IsOutstanding, Starts, Resumes, Takes, Machine, waiting_at, Waiting, ◌≡◌, ◌+◌, ℕ, List, [], ◌∷◌, ◌++◌, length, false, Some, slice_get, Result, Err, IsLost, Ended, UnderWay, Answer, Refused, Fault, Entry, Began, Delivered, Call, Reply, Op}
use Rattle.core_facts.proofs.Passing.{Passes}
use Rattle.core_facts.proofs.Telling.{IsHeardNow, IsUnmadeFault, TellLaws}
use Rattle.core_facts.specs.Reaches.{IsSetUp, MayHear}
use Rattle.core_facts.proofs.Stories.{IsGiven}
use Rattle.world_model.specs.declared.answer.Fault.TheVariants as faults
use Rattle.core_facts.proofs.Telling as telling

-- As a record comes Q holds of each call that waited, of the operation that is under way in its lane, of its machine, and of the place where the call was first
-- sent; as long as the session isn't lost.
abbrev pub Sight : Type 1
Sight = List Entry → ℕ → Op → Machine → ℕ → Turn → Call → Shelf → Type 0

abbrev pub IsSeen : (ℕ → Op → Machine) → Setup → Sight → Type 0
IsSeen machine_of setup Q = (h : List Entry) (v : View) → Reaches machine_of setup h v → v.lost ≡ false → MayHear v → (xid : ℕ) (w : Waiting Purpose)
    → waiting_at xid v.calls.calls ≡ Some w → (made : IsMade setup.cred xid w) → (at : ℕ) (machine : Machine) → slice_get v.lanes at ≡ Some (record { number = w.purpose.lane; state = Busy machine })
    → (x : ℕ) (op : Op) → UnderWay h w.purpose.lane x (length h) op → (from : ℕ) → IsOutstanding h xid w.bytes from
    → (rec : List ℕ) → Q (h ++ Delivered rec ∷ []) x op machine from w.purpose.sent made.asked v.shelf

-- The same where G holds of each view before (`Passing`).
abbrev pub IsSeenBy : (ℕ → Op → Machine) → Setup → (List Entry → View → Type 0) → Sight → Type 0
IsSeenBy machine_of setup G Q = (h : List Entry) (v : View) → Passes machine_of setup G h v → v.lost ≡ false → MayHear v → (xid : ℕ) (w : Waiting Purpose)
    → waiting_at xid v.calls.calls ≡ Some w → (made : IsMade setup.cred xid w) → (at : ℕ) (machine : Machine) → slice_get v.lanes at ≡ Some (record { number = w.purpose.lane; state = Busy machine })
    → (x : ℕ) (op : Op) → UnderWay h w.purpose.lane x (length h) op → (from : ℕ) → IsOutstanding h xid w.bytes from
    → (rec : List ℕ) → Q (h ++ Delivered rec ∷ []) x op machine from w.purpose.sent made.asked v.shelf

-- what came of a call that the machine waited for, and Q of it; a status came only in a reply
pub record IsToldOf (Q : Sight) (E : Machine → Call → Type 0) (W : List Entry → ℕ → Op → Call → Type 0) (h : List Entry) (x : ℕ) (op : Op) (machine : Machine) (sent : Turn)
    (came : Result Reply Fault) (shelf : Shelf) : Type 0 where
  pub call : Call
  pub expects : E machine call
  pub asks : W h x op call
  pub now : IsHeardNow h x call came
  pub read : (status : ℕ) → came ≡ Err (faults.Nfs status) → ⊥
  pub seen : Q h x op machine now.heard.sent_at sent call shelf

-- Something came of a call, or it wasn't made.
pub data CameOf (Q : Sight) (E : Machine → Call → Type 0) (W : List Entry → ℕ → Op → Call → Type 0) (h : List Entry) (x : ℕ) (op : Op) (machine : Machine) (sent : Turn)
    (came : Result Reply Fault) (shelf : Shelf) : Type 0 where
  heard_of : IsToldOf Q E W h x op machine sent came shelf → CameOf Q E W h x op machine sent came shelf
  unmade : (call : Call) → E machine call → (fault : Fault) → came ≡ Err fault → IsUnmadeFault fault → CameOf Q E W h x op machine sent came shelf

-- The laws of a tale (`core_facts`), where more is known: P of the history and the shelf as the operation begins in its lane, and Q as a reply comes.
pub record SlotLaws (P : List Entry → ℕ → Shelf → Type 0) (Q : Sight) (machine_of : ℕ → Op → Machine) (setup : Setup) (E : Machine → Call → Type 0)
    (W : List Entry → ℕ → Op → Call → Type 0) (I : List Entry → Shelf → Type 0) (S : List Entry → ℕ → Op → State → Type 0) : Type 0 where
  pub fresh : (h : List Entry) (v : View) → IsSetUp setup h → IsFresh setup v → I h v.shelf
  pub starts : (h : List Entry) (lane line : ℕ) (op : Op) (wsize : ℕ) (turn : Turn) (old : Shelf) (next : Step) (new : Machine) (after : Shelf) → P h lane old
      → I (h ++ Began lane line op ∷ []) old → Starts wsize (machine_of lane op) turn old next new after → Did W I S (h ++ Began lane line op ∷ []) (length h) op next new after
  pub resumes : (h : List Entry) (x : ℕ) (op : Op) (machine : Machine) (wsize : ℕ) (turn : Turn) (old : Shelf) (next : Step) (new : Machine) (after : Shelf)
      → I h old → S h x op (Busy machine) → Resumes wsize machine turn old next new after → Did W I S h x op next new after
  pub takes : (h : List Entry) (x : ℕ) (op : Op) (machine : Machine) (wsize : ℕ) (sent turn : Turn) (came : Result Reply Fault) (old : Shelf) (next : Step) (new : Machine)
      (after : Shelf) (others : ℕ) → I h old → S h x op (Busy machine) → in_flight machine ≡ others + 1 → CameOf Q E W h x op machine sent came old
      → Takes wsize machine sent turn came old next new after → Did W I S h x op next new after
  pub still : (h : List Entry) (e : Entry) (shelf : Shelf) → I h shelf → I (h ++ e ∷ []) shelf
  pub waits : (h : List Entry) (e : Entry) (x : ℕ) (op : Op) (call : Call) → W h x op call → W (h ++ e ∷ []) x op call
  pub grows : (h : List Entry) (e : Entry) (x : ℕ) (op : Op) (state : State) → IsQuiet state e → S h x op state → S (h ++ e ∷ []) x op state
  pub lost : (h : List Entry) (x : ℕ) (op : Op) → IsLost h (length h) → S h x op (Over (Refused faults.Lost))

module _ (machine_of : ℕ → Op → Machine) (unbegun : (lane : ℕ) (op : Op) → IsUnbegun (machine_of lane op)) (setup : Setup) (G : List Entry → View → Type 0) (P : List Entry → ℕ → Shelf → Type 0)
    (given : IsGiven machine_of setup P) (Q : Sight) (sees : IsSeenBy machine_of setup G Q) (E : Machine → Call → Type 0) (expected : ExpectLaws E) (W : List Entry → ℕ → Op → Call → Type 0) (I : List Entry → Shelf → Type 0)
    (S : List Entry → ℕ → Op → State → Type 0) (laws : SlotLaws P Q machine_of setup E W I S) where
  abbrev Sees : telling.Sight
  Sees h x op machine from sent turn call shelf = Q h x op machine from sent call shelf

  pub sees-so : telling.IsSeenBy machine_of setup G S Sees
  sees-so h v p found may xid w waits made at machine there x op u from out story rec = sees h v p found may xid w waits made at machine there x op u from out rec

  came-so : (h : List Entry) (x : ℕ) (op : Op) (machine : Machine) (sent turn : Turn) (came : Result Reply Fault) (shelf : Shelf) → telling.CameOf Sees E W h x op machine sent turn came shelf
      → CameOf Q E W h x op machine sent came shelf
  came-so h x op machine sent turn came shelf (telling.heard_of t) =
      heard_of (record { call = t.call; expects = t.expects; asks = t.asks; now = t.now; read = t.read; seen = t.seen })
  came-so h x op machine sent turn came shelf (telling.unmade call e fault is u w) = unmade call e fault is u

  pub tell-laws : TellLaws P Sees machine_of setup E W I S
  tell-laws = record {
    fresh = laws.fresh;
    starts = laws.starts;
    resumes = laws.resumes;
    takes = λ h x op machine wsize sent turn came old next new after others shelf state count told.
        laws.takes h x op machine wsize sent turn came old next new after others shelf state count (came-so h x op machine sent turn came old told);
    still = laws.still;
    waits = laws.waits;
    grows = laws.grows;
    lost = laws.lost;
  }

  abbrev pub AllGoodBy : List Entry → View → Type 0
  AllGoodBy = telling.AllGoodBy machine_of unbegun setup G P given Sees S sees-so E expected W I tell-laws

  pub reached-good-by : (h : List Entry) (v : View) → Passes machine_of setup G h v → AllGoodBy h v
  reached-good-by = telling.reached-good-by machine_of unbegun setup G P given Sees S sees-so E expected W I tell-laws

  pub reached-answered-by : (h : List Entry) (v : View) → Passes machine_of setup G h v → (lane x : ℕ) (op : Op) (y : ℕ) (answer : Answer) → Ended h lane x op y answer
      → HadStory (λ k z o b. S k z o (Over b)) h x op y answer
  reached-answered-by = telling.reached-answered-by machine_of unbegun setup G P given Sees S sees-so E expected W I tell-laws

-- where nothing is said of the views
module _ (machine_of : ℕ → Op → Machine) (unbegun : (lane : ℕ) (op : Op) → IsUnbegun (machine_of lane op)) (setup : Setup) (P : List Entry → ℕ → Shelf → Type 0)
    (given : IsGiven machine_of setup P) (Q : Sight) (sees : IsSeen machine_of setup Q) (E : Machine → Call → Type 0) (expected : ExpectLaws E) (W : List Entry → ℕ → Op → Call → Type 0) (I : List Entry → Shelf → Type 0)
    (S : List Entry → ℕ → Op → State → Type 0) (laws : SlotLaws P Q machine_of setup E W I S) where
  pub seen-any : IsSeenBy machine_of setup Anything Q
  seen-any h v p = sees h v (forget machine_of setup Anything h v p)

  abbrev pub AllGood : List Entry → View → Type 0
  AllGood h v = AllGoodBy machine_of unbegun setup Anything P given Q seen-any E expected W I S laws h v

  pub reached-good : (h : List Entry) (v : View) → Reaches machine_of setup h v → AllGood h v
  reached-good h v r = reached-good-by machine_of unbegun setup Anything P given Q seen-any E expected W I S laws h v (passes-any machine_of setup h v r)

  pub reached-answered : (h : List Entry) (v : View) → Reaches machine_of setup h v → (lane x : ℕ) (op : Op) (y : ℕ) (answer : Answer) → Ended h lane x op y answer
      → HadStory (λ k z o b. S k z o (Over b)) h x op y answer
  reached-answered h v r = reached-answered-by machine_of unbegun setup Anything P given Q seen-any E expected W I S laws h v (passes-any machine_of setup h v r)
