-- What a history shows of a lane: its operations begin one after the other, each answered before the next begins.
use Rattle.std.specs.Prelude.{◌≡◌, ◌<◌, ◌⊎◌, ℕ, List, [], ◌∷◌, ◌++◌, length}
use Rattle.world_model.specs.declared.answer.Answer.{Answer}
use Rattle.world_model.specs.declared.entry.Entry.{Entry}
use Rattle.world_model.specs.declared.entry.Entry.TheVariants.{Began, Answered}
use Rattle.world_model.specs.declared.op.Op.{Op}
use Rattle.world_model.specs.Entries.{At}
use Rattle.world_model.specs.Follows.{marks_of}
use Rattle.world_model.specs.Operations.{AnsweredBefore}

-- operations that began and were answered, one after the other
pub data Closed : List Entry → Type 0 where
  closed_none : (marks : List Entry) → marks ≡ [] → Closed marks
  closed_more : (marks rest : List Entry) (lane line : ℕ) (op : Op) (answer : Answer) → marks ≡ Began lane line op ∷ Answered lane line answer ∷ rest → Closed rest → Closed marks

-- an operation of the lane is under way, that of this line, and all before it were answered
pub record IsRunning (h : List Entry) (lane line : ℕ) : Type 0 where
  pub x : ℕ
  pub op : Op
  pub began : At h x (Began lane line op)
  pub unanswered : (j : ℕ) (answer : Answer) → At h j (Answered lane line answer) → x < j → ⊥
  pub others : (k other : ℕ) (o : Op) → At h k (Began lane other o) → (k ≡ x) ⊎ AnsweredBefore h k (length h)
  pub before : List Entry
  pub closed : Closed before
  pub marks : marks_of lane h ≡ before ++ Began lane line op ∷ []

-- all operations of the lane were answered
pub record IsResting (h : List Entry) (lane : ℕ) : Type 0 where
  pub answered : (k line : ℕ) (op : Op) → At h k (Began lane line op) → AnsweredBefore h k (length h)
  pub closed : Closed (marks_of lane h)
