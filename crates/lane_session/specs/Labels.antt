-- What is written of answers: their lines, each behind a label. One client's lines have none; two clients that write to one sink have one each.
use Rattle.std.specs.Prelude.{◌≡◌, ℕ, List, [], ◌∷◌, ◌++◌}
use Rattle.world_model.specs.declared.answer.Answer.{Answer}
use Rattle.world_model.specs.declared.entry.Entry.{Entry}
use Rattle.world_model.specs.declared.entry.Entry.TheVariants.{Answered}
use Rattle.world_model.specs.Follows.{IsFront}
use Rattle.world_model.specs.Transcript.{line_text}

-- the line of an answer, behind the label
abbrev pub told_in : List ℕ → Entry → List ℕ
told_in label (Answered lane line answer) = label ++ line_text lane line answer
told_in label e = []

abbrev pub told_by : List ℕ → List Entry → List ℕ
told_by label [] = []
told_by label (e ∷ es) = told_in label e ++ told_by label es

-- The lines of all answers were written; or the last entry is an answer, and a front of its line was written behind the lines of those before it.
pub data IsCutIn (label : List ℕ) (h : List Entry) (text : List ℕ) : Type 0 where
  all_told : text ≡ told_by label h → IsCutIn label h text
  last_cut : (before : List Entry) (lane line : ℕ) (answer : Answer) (front : List ℕ) → h ≡ before ++ Answered lane line answer ∷ []
      → text ≡ told_by label before ++ front → IsFront front (label ++ line_text lane line answer) → IsCutIn label h text
