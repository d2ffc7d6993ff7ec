-- What a link places behind the calls of its wire or of its datagrams, which keep it if they tell their calls.
use Rattle.std.specs.Prelude.{◌≡◌, List, [], ◌∷◌, ◌++◌, Option, Some, None}

-- A place was kept behind all others, if the calls are told; if they aren't, nothing is kept.
abbrev pub KeepsPlace : {T P : Type 0} → Option T → List P → List P → P → Type 0
KeepsPlace None old new place = new ≡ old
KeepsPlace (Some told) old new place = new ≡ old ++ place ∷ []

-- A place was put into that of the last, if there is one.
pub record PutsLast {P : Type 0} (old new : List P) (place : P) : Type 0 where
  pub last : (ps : List P) (p : P) → old ≡ ps ++ p ∷ [] → new ≡ ps ++ place ∷ []
  pub none : old ≡ [] → new ≡ []

-- The last was taken away, if there is one.
pub record TakesLast {P : Type 0} (old new : List P) : Type 0 where
  pub last : (ps : List P) (p : P) → old ≡ ps ++ p ∷ [] → new ≡ ps
  pub none : old ≡ [] → new ≡ []
