-- Lists with one item more.
use Rattle.std.specs.Prelude.{List, [], ◌∷◌, Bool, if◌then◌else◌}

-- an item in place of the first that passes, or else as the last
abbrev pub replaced : {X : Type 0} → (X → Bool) → X → List X → List X
replaced p x [] = x ∷ []
replaced p x (y ∷ ys) = if p y then x ∷ ys else y ∷ replaced p x ys

-- an item before the first that passes, or else as the last
abbrev pub inserted : {X : Type 0} → (X → Bool) → X → List X → List X
inserted p x [] = x ∷ []
inserted p x (y ∷ ys) = if p y then x ∷ y ∷ ys else y ∷ inserted p x ys
