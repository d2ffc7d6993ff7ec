-- What the steps of operations keep of the shelf, and of themselves, holds along a history: what they take is the last record that came, and answers
-- the call that they wait for, which was first sent at a place that the operation knows, or after it. It is an instance of the engine.
use Rattle.core_answers.proofs.Prelude.{HadStory, ◌≡◌, ◌<◌, ◌≤◌, ◌+◌, ℕ, List, [], ◌∷◌, ◌++◌, length, Result, Ok, Refused, Fault, Answer, Entry, Began, Call, Reply, Op, IsLost, Ended, IsDelivered, Step, Shelf, Turn, machine_of, Mounted, Machine, Starts, Resumes, Takes, Setup, IsFresh, View, in_flight, Reaches, ThenOf, time_next}
use Rattle.core_answers.proofs.engine.Laws.{FromPlace, LaneLaws, Anyhow, anyhow-around, anyhow-back, anyhow-gives}
use Rattle.core_answers.proofs.engine.Told.{AskLaws, ShelfLaws, IsLate, ToldLast}
use Rattle.world_model.specs.declared.answer.Fault.TheVariants as faults
use Rattle.core_answers.proofs.engine.Lanes as lanes

-- A fact of the shelf; B of an operation under way, which began at a place, and knows of a place at or after which each of its calls that wait was
-- first sent; and O of one that has its answer: its steps keep them, and entries.
pub record FollowLaws (machine_of : ℕ → Op → Machine) (E : Machine → Call → Type 0) (K : List Entry → Shelf → Type 0) (B : List Entry → ℕ → ℕ → Op → Machine → Type 0)
    (O : List Entry → ℕ → Op → Answer → Type 0) : Type 0 where
  pub shelf : ShelfLaws E K
  pub starts : (h : List Entry) (lane line : ℕ) (op : Op) (wsize : ℕ) (turn : Turn) (old : Shelf) (next : Step) (new : Machine) (after : Shelf)
      → K (h ++ Began lane line op ∷ []) old → time_next h ≤ turn.now → Starts wsize (machine_of lane op) turn old next new after
      → ThenOf (B (h ++ Began lane line op ∷ []) (length h) (length h) op) (O (h ++ Began lane line op ∷ []) (length h) op) next new
  pub resumes : (h : List Entry) (place x : ℕ) (op : Op) (machine : Machine) (wsize : ℕ) (turn : Turn) (old : Shelf) (next : Step) (new : Machine) (after : Shelf)
      → K h old → x < length h → IsLate h x turn.now → B h place x op machine → Resumes wsize machine turn old next new after → ThenOf (B h place x op) (O h x op) next new
  pub takes : (h : List Entry) (place x : ℕ) (op : Op) (machine : Machine) (call : Call) (wsize : ℕ) (sent turn : Turn) (came : Result Reply Fault) (old : Shelf) (next : Step)
      (new : Machine) (after : Shelf) (others : ℕ) → K h old → K h after → x < length h → place ≤ length h → IsLate h x turn.now → in_flight machine ≡ others + 1
      → B h place x op machine → E machine call
      → ((reply : Reply) → came ≡ Ok reply → ToldLast h x place call sent.now reply) → Takes wsize machine sent turn came old next new after
      → ThenOf (λ k. FromPlace h others place (λ n. B h n x op k)) (O h x op) next new
  pub grows : (h : List Entry) (e : Entry) (place x : ℕ) (op : Op) (machine : Machine) → B h place x op machine → B (h ++ e ∷ []) place x op machine
  pub stays : (h : List Entry) (e : Entry) (x : ℕ) (op : Op) (answer : Answer) → (IsDelivered e → ⊥) → O h x op answer → O (h ++ e ∷ []) x op answer
  pub lost : (h : List Entry) (x : ℕ) (op : Op) → IsLost h (length h) → O h x op (Refused faults.Lost)

module _ (m : Mounted) (setup : Setup) (E : Machine → Call → Type 0) (asking : AskLaws E) (K : List Entry → Shelf → Type 0) (B : List Entry → ℕ → ℕ → Op → Machine → Type 0)
    (O : List Entry → ℕ → Op → Answer → Type 0) (laws : FollowLaws (machine_of m) E K B O) where
  abbrev NoneGiven : List Entry → ℕ → Shelf → Type 0
  NoneGiven h lane shelf = Unit {0}

  pub lane-laws : LaneLaws (machine_of m) setup Anyhow E NoneGiven K B O
  lane-laws = record {
    starts = λ h lane line op wsize turn old next new after first p at kept late s. record {
      kept = laws.shelf.starts (h ++ Began lane line op ∷ []) (machine_of m lane op) wsize turn old next new after s kept;
      then_ = laws.starts h lane line op wsize turn old next new after kept late s;
    };
    resumes = λ h place x op machine wsize turn old next new after kept p running below within late story s. record {
      kept = laws.shelf.resumes h machine wsize turn old next new after s kept;
      then_ = laws.resumes h place x op machine wsize turn old next new after kept below late story s;
    };
    takes = λ h place x op machine call wsize sent turn came old next new after others kept below within late count story on told s.
        let last : (reply : Reply) → came ≡ Ok reply → ToldLast h x place call sent.now reply = λ reply is. (told reply is).0.told in
        let learnt : K h after = laws.shelf.takes h machine call wsize sent turn came old next new after on (λ reply is. (last reply is).since.told) s kept in
        record { kept = learnt; then_ = laws.takes h place x op machine call wsize sent turn came old next new after others kept learnt below within late count story on last s };
    still = laws.shelf.grows;
    grows = laws.grows;
    stays = laws.stays;
    lost = laws.lost;
  }

  abbrev pub Known : List Entry → View → Type 0
  Known = lanes.Known m setup Anyhow (anyhow-around (machine_of m) setup) Anyhow Anyhow (anyhow-back (machine_of m) setup) Anyhow anyhow-gives E asking NoneGiven K B O lane-laws
      (λ g w lane reached found other. tt)

  pub reached-known : ((h : List Entry) (v : View) → IsFresh setup v → K h v.shelf) → (h : List Entry) (v : View) → Reaches (machine_of m) setup h v → Known h v
  reached-known first h v r =
      lanes.reached-known m setup Anyhow (anyhow-around (machine_of m) setup) Anyhow Anyhow (anyhow-back (machine_of m) setup) Anyhow anyhow-gives E asking NoneGiven K B O lane-laws
      (λ g w lane reached found other. tt) first h v r tt

  pub reached-answered : ((h : List Entry) (v : View) → IsFresh setup v → K h v.shelf) → (h : List Entry) (v : View) → Reaches (machine_of m) setup h v → (lane x : ℕ) (op : Op) (y : ℕ)
      (answer : Answer) → Ended h lane x op y answer
      → HadStory O h x op y answer
  reached-answered first h v r =
      lanes.reached-answered m setup Anyhow (anyhow-around (machine_of m) setup) Anyhow Anyhow (anyhow-back (machine_of m) setup) Anyhow anyhow-gives E asking NoneGiven K B O lane-laws
      (λ g w lane reached found other. tt) first h v r tt
