-- Each lane follows its lines of the script. A script is seen as the entries that begin its lines, one for each line.
use Rattle.std.specs.Prelude.{◌≡◌, ◌==◌, ◌++◌, ℕ, List, [], ◌∷◌, length, if◌then◌else◌}
use Rattle.world_model.specs.declared.answer.Answer.{Answer}
use Rattle.world_model.specs.declared.entry.Entry.{Entry}
use Rattle.world_model.specs.declared.entry.Entry.TheVariants.{Began, Answered}
use Rattle.world_model.specs.declared.op.Op.{Op}
use Rattle.world_model.specs.Entries.{At}
use Rattle.world_model.specs.Operations.{AnsweredBefore}

-- the entries that begin a line of this lane, in their order
abbrev pub begun : ℕ → List Entry → List Entry
begun lane [] = []
begun lane (Began l line op ∷ es) = if l == lane then Began l line op ∷ begun lane es else begun lane es
begun lane (e ∷ es) = begun lane es

-- the entries that begin or answer a line of this lane, in their order
abbrev pub marks_of : ℕ → List Entry → List Entry
marks_of lane [] = []
marks_of lane (Began l line op ∷ es) = if l == lane then Began l line op ∷ marks_of lane es else marks_of lane es
marks_of lane (Answered l line answer ∷ es) = if l == lane then Answered l line answer ∷ marks_of lane es else marks_of lane es
marks_of lane (e ∷ es) = marks_of lane es

-- The lines of a lane begin one after the other: each but the last is answered before the next begins.
pub data Alternates : List Entry → Type 0 where
  none : (marks : List Entry) → marks ≡ [] → Alternates marks
  busy : (marks : List Entry) (lane line : ℕ) (op : Op) → marks ≡ Began lane line op ∷ [] → Alternates marks
  answered : (marks rest : List Entry) (lane line : ℕ) (op : Op) (answer : Answer) → marks ≡ Began lane line op ∷ Answered lane line answer ∷ rest
      → Alternates rest → Alternates marks

-- a list begins with another
pub record IsFront {T : Type 0} (front whole : List T) : Type 0 where
  pub rest : List T
  pub is : whole ≡ front ++ rest

-- In each lane the lines begin one after the other, and they are the first of the script's lines of that lane, in order.
pub record Follows (script h : List Entry) : Type 0 where
  pub alternates : (lane : ℕ) → Alternates (marks_of lane h)
  pub begins : (lane : ℕ) → IsFront (begun lane h) (begun lane script)

-- Each line of the script was begun, and each that was begun was answered.
pub record Finishes (script h : List Entry) : Type 0 where
  pub all : (lane : ℕ) → begun lane h ≡ begun lane script
  pub answered : (x lane line : ℕ) (op : Op) → At h x (Began lane line op) → AnsweredBefore h x (length h)
