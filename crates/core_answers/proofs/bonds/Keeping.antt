-- What the steps of operations keep of the shelf, and of themselves, holds along a history: what they take is known to answer the call that they
-- wait for. It is an instance of the engine.
use Rattle.core_answers.proofs.Prelude.{HadStory, ◌≡◌, ◌<◌, ◌≤◌, ℕ, List, [], ◌∷◌, ◌++◌, length, Result, Ok, Refused, Fault, Answer, Entry, Began, Call, Reply, Op, IsLost, Ended, Step, Shelf, Turn, machine_of, Mounted, Machine, Starts, Resumes, Takes, State, Busy, Over, Setup, IsFresh, View, Reaches, ThenOf, time_next}
use Rattle.core_answers.proofs.engine.Laws.{LaneLaws, then-placed, Anyhow, anyhow-around, anyhow-back, anyhow-gives}
use Rattle.core_answers.proofs.engine.Told.{AskLaws, ShelfLaws, IsLate, ToldSince}
use Rattle.world_model.specs.declared.answer.Fault.TheVariants as faults
use Rattle.core_answers.proofs.engine.Lanes as lanes

-- A fact of the shelf, and one of an operation, which began at a place, that its steps keep, and each entry.
pub record BondLaws (machine_of : ℕ → Op → Machine) (E : Machine → Call → Type 0) (K : List Entry → Shelf → Type 0) (S : List Entry → ℕ → Op → State → Type 0) : Type 0 where
  pub shelf : ShelfLaws E K
  pub starts : (h : List Entry) (lane line : ℕ) (op : Op) (wsize : ℕ) (turn : Turn) (old : Shelf) (next : Step) (new : Machine) (after : Shelf)
      → K (h ++ Began lane line op ∷ []) old → time_next h ≤ turn.now → Starts wsize (machine_of lane op) turn old next new after
      → ThenOf (λ m. S (h ++ Began lane line op ∷ []) (length h) op (Busy m)) (λ a. S (h ++ Began lane line op ∷ []) (length h) op (Over a)) next new
  pub resumes : (h : List Entry) (x : ℕ) (op : Op) (machine : Machine) (wsize : ℕ) (turn : Turn) (old : Shelf) (next : Step) (new : Machine) (after : Shelf)
      → K h old → x < length h → IsLate h x turn.now → S h x op (Busy machine) → Resumes wsize machine turn old next new after
      → ThenOf (λ m. S h x op (Busy m)) (λ a. S h x op (Over a)) next new
  pub takes : (h : List Entry) (x : ℕ) (op : Op) (machine : Machine) (call : Call) (wsize : ℕ) (sent turn : Turn) (came : Result Reply Fault) (old : Shelf) (next : Step)
      (new : Machine) (after : Shelf) → K h old → K h after → x < length h → IsLate h x turn.now → S h x op (Busy machine) → E machine call
      → ((reply : Reply) → came ≡ Ok reply → ToldSince h x call sent.now reply) → Takes wsize machine sent turn came old next new after
      → ThenOf (λ m. S h x op (Busy m)) (λ a. S h x op (Over a)) next new
  pub grows : (h : List Entry) (e : Entry) (x : ℕ) (op : Op) (state : State) → S h x op state → S (h ++ e ∷ []) x op state
  pub lost : (h : List Entry) (x : ℕ) (op : Op) → IsLost h (length h) → S h x op (Over (Refused faults.Lost))

-- ---- lists

module _ (m : Mounted) (setup : Setup) (E : Machine → Call → Type 0) (asking : AskLaws E) (K : List Entry → Shelf → Type 0) (S : List Entry → ℕ → Op → State → Type 0)
    (laws : BondLaws (machine_of m) E K S) where
  abbrev Runs : List Entry → ℕ → ℕ → Op → Machine → Type 0
  Runs h place x op machine = S h x op (Busy machine)

  abbrev Ends_ : List Entry → ℕ → Op → Answer → Type 0
  Ends_ h x op answer = S h x op (Over answer)

  abbrev NoneGiven : List Entry → ℕ → Shelf → Type 0
  NoneGiven h lane shelf = Unit {0}

  pub lane-laws : LaneLaws (machine_of m) setup Anyhow E NoneGiven K Runs Ends_
  lane-laws = record {
    starts = λ h lane line op wsize turn old next new after first p at kept late s. record {
      kept = laws.shelf.starts (h ++ Began lane line op ∷ []) (machine_of m lane op) wsize turn old next new after s kept;
      then_ = laws.starts h lane line op wsize turn old next new after kept late s;
    };
    resumes = λ h place x op machine wsize turn old next new after kept p running below within late story s. record {
      kept = laws.shelf.resumes h machine wsize turn old next new after s kept;
      then_ = laws.resumes h x op machine wsize turn old next new after kept below late story s;
    };
    takes = λ h place x op machine call wsize sent turn came old next new after others kept below within late count story on told s.
        let since : (reply : Reply) → came ≡ Ok reply → ToldSince h x call sent.now reply = λ reply is. (told reply is).0.told.since in
        let learnt : K h after = laws.shelf.takes h machine call wsize sent turn came old next new after on (λ reply is. (since reply is).told) s kept in
        record {
          kept = learnt;
          then_ = then-placed h others place (λ k. S h x op (Busy k)) (λ a. S h x op (Over a)) next new within
              (laws.takes h x op machine call wsize sent turn came old next new after kept learnt below late story on since s);
        };
    still = laws.shelf.grows;
    grows = λ h e place x op machine story. laws.grows h e x op (Busy machine) story;
    stays = λ h e x op answer quiet story. laws.grows h e x op (Over answer) story;
    lost = laws.lost;
  }

  abbrev pub Known : List Entry → View → Type 0
  Known = lanes.Known m setup Anyhow (anyhow-around (machine_of m) setup) Anyhow Anyhow (anyhow-back (machine_of m) setup) Anyhow anyhow-gives E asking NoneGiven K Runs Ends_ lane-laws
      (λ g w lane reached found other. tt)

  pub reached-known : ((h : List Entry) (v : View) → IsFresh setup v → K h v.shelf) → (h : List Entry) (v : View) → Reaches (machine_of m) setup h v → Known h v
  reached-known first h v r =
      lanes.reached-known m setup Anyhow (anyhow-around (machine_of m) setup) Anyhow Anyhow (anyhow-back (machine_of m) setup) Anyhow anyhow-gives E asking NoneGiven K Runs Ends_ lane-laws
      (λ g w lane reached found other. tt) first h v r tt

  pub reached-answered : ((h : List Entry) (v : View) → IsFresh setup v → K h v.shelf) → (h : List Entry) (v : View) → Reaches (machine_of m) setup h v → (lane x : ℕ) (op : Op) (y : ℕ)
      (answer : Answer) → Ended h lane x op y answer
      → HadStory Ends_ h x op y answer
  reached-answered first h v r =
      lanes.reached-answered m setup Anyhow (anyhow-around (machine_of m) setup) Anyhow Anyhow (anyhow-back (machine_of m) setup) Anyhow anyhow-gives E asking NoneGiven K Runs Ends_ lane-laws
      (λ g w lane reached found other. tt) first h v r tt
