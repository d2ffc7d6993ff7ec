-- Lanes run together: none waits for another to come to its end.
use Rattle.std.specs.Prelude.{◌<◌, ◌⊎◌, ℕ, List}
use Rattle.world_model.specs.declared.answer.Answer.{Answer}
use Rattle.world_model.specs.declared.entry.Entry.{Entry}
use Rattle.world_model.specs.declared.entry.Entry.TheVariants.{Began, Answered, Delivered}
use Rattle.world_model.specs.declared.op.Op.{Op}
use Rattle.world_model.specs.Entries.{At}
use Rattle.world_model.specs.Operations.{UnderWay}

-- the line of this lane was answered before the place n
pub record LineAnswered (h : List Entry) (lane line n : ℕ) : Type 0 where
  pub at : ℕ
  pub answer : Answer
  pub answered : At h at (Answered lane line answer)
  pub before : at < n

-- an operation of this lane is under way before the place n
pub record IsBusy (h : List Entry) (lane n : ℕ) : Type 0 where
  pub x : ℕ
  pub op : Op
  pub under_way : UnderWay h lane x n op

-- some operation began before the place n
pub record HasBegun (h : List Entry) (n : ℕ) : Type 0 where
  pub at : ℕ
  pub lane : ℕ
  pub line : ℕ
  pub op : Op
  pub began : At h at (Began lane line op)
  pub before : at < n

-- Whenever a record comes after the first operation began, each lane that has a line not yet answered has one under way.
abbrev pub LanesTogether : List Entry → List Entry → Type 0
LanesTogether script h = (n : ℕ) (bytes : List ℕ) → At h n (Delivered bytes) → HasBegun h n
    → (k lane line : ℕ) (op : Op) → At script k (Began lane line op) → LineAnswered h lane line n ⊎ IsBusy h lane n
