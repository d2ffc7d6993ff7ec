-- What the steps of operations keep of the shelf, and of themselves, holds along a history: what they take is known to answer the call that they
-- wait for, and where that is a WRITE, what is in flight under its xid is what it writes. It is an instance of the engine.
use Rattle.core_answers.proofs.Prelude.{HadStory, ◌≡◌, ◌<◌, ◌≤◌, ℕ, List, [], ◌∷◌, ◌++◌, length, false, Result, Ok, ap, Refused, Fault, Answer, Entry, Began, Call, Reply, Op, IsLost, Ended, Pending, Step, Shelf, Turn, machine_of, Mounted, Machine, Starts, Resumes, Takes, State, Busy, Over, Setup, IsFresh, numbers_of, View, Reaches, time_next, Passes}
use Rattle.client_core.specs.Numbers.{IsOther}
use Rattle.core_answers.proofs.engine.Laws.{DidOf, LaneLaws, then-placed, Anyhow, anyhow-around, anyhow-back, anyhow-gives}
use Rattle.core_answers.proofs.engine.Told.{AskLaws, IsLate, ToldSince}
use Rattle.core_answers.proofs.pages.FilePages.{IsSentAs}
use Rattle.world_model.specs.declared.answer.Fault.TheVariants as faults
use Rattle.core_answers.proofs.engine.Laws as engine
use Rattle.core_answers.proofs.engine.Lanes as lanes

-- This is pending in a view through which the core passed since the place x.
pub record HasPassed (machine_of : ℕ → Op → Machine) (setup : Setup) (h : List Entry) (x : ℕ) (back : Pending) : Type 0 where
  pub before : List Entry
  pub after : List Entry
  pub is : h ≡ before ++ after
  pub late : x ≤ length before
  pub view : View
  pub passed : Passes machine_of setup before view
  pub same : view.shelf.back ≡ back

-- What is known where the reply to a call is taken: it was told, and where the call is a WRITE, what is in flight is what it writes.
pub record WasTaken (machine_of : ℕ → Op → Machine) (setup : Setup) (h : List Entry) (x : ℕ) (call : Call) (sent : Turn) (back : Pending) (reply : Reply) : Type 0 where
  pub since : ToldSince h x call sent.now reply
  pub link : IsSentAs sent.xid call back
  pub passed : HasPassed machine_of setup h x back

-- A fact of the shelf, and one of an operation, which began at a place, that steps keep, and each entry. F is known of the shelf as an operation of a lane
-- begins.
pub record BondLaws (machine_of : ℕ → Op → Machine) (setup : Setup) (E : Machine → Call → Type 0) (F : List Entry → ℕ → Shelf → Type 0) (K : List Entry → Shelf → Type 0)
    (S : List Entry → ℕ → Op → State → Type 0) : Type 0 where
  pub starts : (h : List Entry) (lane line : ℕ) (op : Op) (wsize : ℕ) (turn : Turn) (old : Shelf) (next : Step) (new : Machine) (after : Shelf)
      → F h lane old → HasPassed machine_of setup (h ++ Began lane line op ∷ []) (length h) old.back → K (h ++ Began lane line op ∷ []) old → time_next h ≤ turn.now → Starts wsize (machine_of lane op) turn old next new after
      → DidOf K S (h ++ Began lane line op ∷ []) (length h) op next new after
  pub resumes : (h : List Entry) (x : ℕ) (op : Op) (machine : Machine) (wsize : ℕ) (turn : Turn) (old : Shelf) (next : Step) (new : Machine) (after : Shelf)
      → K h old → HasPassed machine_of setup h x old.back → x < length h → IsLate h x turn.now → S h x op (Busy machine) → Resumes wsize machine turn old next new after → DidOf K S h x op next new after
  pub takes : (h : List Entry) (x : ℕ) (op : Op) (machine : Machine) (call : Call) (wsize : ℕ) (sent turn : Turn) (came : Result Reply Fault) (old : Shelf) (next : Step)
      (new : Machine) (after : Shelf) → K h old → x < length h → IsLate h x turn.now → S h x op (Busy machine) → E machine call
      → ((reply : Reply) → came ≡ Ok reply → WasTaken machine_of setup h x call sent old.back reply) → Takes wsize machine sent turn came old next new after
      → DidOf K S h x op next new after
  pub still : (h : List Entry) (e : Entry) (shelf : Shelf) → K h shelf → K (h ++ e ∷ []) shelf
  pub grows : (h : List Entry) (e : Entry) (x : ℕ) (op : Op) (state : State) → S h x op state → S (h ++ e ∷ []) x op state
  pub lost : (h : List Entry) (x : ℕ) (op : Op) → IsLost h (length h) → S h x op (Over (Refused faults.Lost))

module _ (m : Mounted) (setup : Setup) (E : Machine → Call → Type 0) (asking : AskLaws E) (F : List Entry → ℕ → Shelf → Type 0) (K : List Entry → Shelf → Type 0) (S : List Entry → ℕ → Op → State → Type 0)
    (laws : BondLaws (machine_of m) setup E F K S)
    (begin : (h : List Entry) (v : View) (lane : ℕ) → Reaches (machine_of m) setup h v → v.lost ≡ false → IsOther lane (numbers_of v.lanes) → F h lane v.shelf) where
  abbrev Runs : List Entry → ℕ → ℕ → Op → Machine → Type 0
  Runs h place x op machine = S h x op (Busy machine)

  abbrev Ends_ : List Entry → ℕ → Op → Answer → Type 0
  Ends_ h x op answer = S h x op (Over answer)

  back-passed : (h : List Entry) (x : ℕ) (shelf : Shelf) → engine.HasPassed (machine_of m) setup Anyhow h x shelf → HasPassed (machine_of m) setup h x shelf.back
  back-passed h x shelf p =
      record { before = p.before; after = p.after; is = p.is; late = p.late; view = p.view; passed = p.passed; same = ap (λ (s : Shelf). s.back) p.same }

  pub lane-laws : LaneLaws (machine_of m) setup Anyhow E F K Runs Ends_
  lane-laws = record {
    starts = λ h lane line op wsize turn old next new after first p at kept late s.
        laws.starts h lane line op wsize turn old next new after first (back-passed (h ++ Began lane line op ∷ []) (length h) old p) kept late s;
    resumes = λ h place x op machine wsize turn old next new after kept p running below within late story s.
        laws.resumes h x op machine wsize turn old next new after kept (back-passed h x old p) below late story s;
    takes = λ h place x op machine call wsize sent turn came old next new after others kept below within late count story on told s.
        let did : DidOf K S h x op next new after = laws.takes h x op machine call wsize sent turn came old next new after kept below late story on
        (λ reply is. let w = (told reply is).0 in record { since = w.told.since; link = w.link; passed = back-passed h x old w.passed }) s in
        record { kept = did.kept; then_ = then-placed h others place (λ k. S h x op (Busy k)) (λ a. S h x op (Over a)) next new within did.then_ };
    still = laws.still;
    grows = λ h e place x op machine story. laws.grows h e x op (Busy machine) story;
    stays = λ h e x op answer quiet story. laws.grows h e x op (Over answer) story;
    lost = laws.lost;
  }

  abbrev pub Known : List Entry → View → Type 0
  Known = lanes.Known m setup Anyhow (anyhow-around (machine_of m) setup) Anyhow Anyhow (anyhow-back (machine_of m) setup) Anyhow anyhow-gives E asking F K Runs Ends_ lane-laws
      begin

  pub reached-known : ((h : List Entry) (v : View) → IsFresh setup v → K h v.shelf) → (h : List Entry) (v : View) → Reaches (machine_of m) setup h v → Known h v
  reached-known first h v r =
      lanes.reached-known m setup Anyhow (anyhow-around (machine_of m) setup) Anyhow Anyhow (anyhow-back (machine_of m) setup) Anyhow anyhow-gives E asking F K Runs Ends_ lane-laws
      begin first h v r tt

  pub reached-answered : ((h : List Entry) (v : View) → IsFresh setup v → K h v.shelf) → (h : List Entry) (v : View) → Reaches (machine_of m) setup h v → (lane x : ℕ) (op : Op) (y : ℕ)
      (answer : Answer) → Ended h lane x op y answer
      → HadStory Ends_ h x op y answer
  reached-answered first h v r =
      lanes.reached-answered m setup Anyhow (anyhow-around (machine_of m) setup) Anyhow Anyhow (anyhow-back (machine_of m) setup) Anyhow anyhow-gives E asking F K Runs Ends_ lane-laws
      begin first h v r tt
