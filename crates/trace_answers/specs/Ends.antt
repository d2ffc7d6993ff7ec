-- Where an operation ends.
use Rattle.std.specs.Prelude.{ℕ, List}
use Rattle.world_model.specs.declared.answer.Answer.{Answer}
use Rattle.world_model.specs.declared.entry.Entry.{Entry}
use Rattle.world_model.specs.declared.op.Op.{Op}
use Rattle.world_model.specs.Operations.{Ended, AnsweredBefore}

-- the operation that began at the place x is answered nowhere
abbrev pub NeverEnds : List Entry → ℕ → Type 0
NeverEnds h x = (n : ℕ) → AnsweredBefore h x n → ⊥

-- an operation that began at the place x is answered at the place y
abbrev pub EndsThere : List Entry → ℕ → ℕ → Type 0
EndsThere h x y = (lane : ℕ) × (op : Op) × (answer : Answer) × Ended h lane x op y answer
