-- Along a history a client comes from its beginning to a state: by entries, and by moves of its own between them.
use Rattle.std.specs.Prelude.{◌≡◌, ◌<◌, ℕ, List, [], ◌∷◌, ◌++◌, length, None}
use Rattle.model_writes.specs.Story.{Spot, Op, Call, plain, Entry, Began, Sent, At}
use Rattle.model_writes.specs.Machine.{View, idle, Move, Enters}

-- What a set-up leaves, before the first operation begins: its calls are plain ones, under xids below the client's first one. A reply to
-- one may still come (RFC 1813, section 5.2.1, MNT; section 3.3.19, FSINFO).
pub record SetsUp (h : List Entry) (first : ℕ) : Type 0 where
  pub unbegun : (i lane : ℕ) (op : Op) → At h i (Began lane op) → ⊥
  pub sent : (i x : ℕ) (call : Call) → At h i (Sent x call) → (x < first) × (what : ℕ) × (call ≡ plain what)

-- a client at its beginning
pub record Fresh (c : View) : Type 0 where
  pub rest : (i : Spot) → c.rest i ≡ None
  pub fly : (i : Spot) → c.fly i ≡ None
  pub wait : (x : ℕ) → c.wait x ≡ None
  pub lane : (l : ℕ) → c.lane l ≡ idle
  pub added : (w : ℕ) → c.added w ≡ None

pub data Reaches : List Entry → View → Type 0 where
  begins : (h : List Entry) (c : View) → SetsUp h c.next_xid → Fresh c → Reaches h c
  enters : (h : List Entry) (c : View) (before : List Entry) (b : View) (e : Entry) → Reaches before b → h ≡ before ++ e ∷ [] → Enters (length before) b e c
      → Reaches h c
  moves : (h : List Entry) (c : View) (b : View) → Reaches h b → Move b c → Reaches h c
