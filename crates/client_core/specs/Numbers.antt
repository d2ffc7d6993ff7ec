-- The numbers of lanes: 1 to 16, each once.
use Rattle.std.specs.Prelude.{◌≢◌, ◌≤◌, ℕ, List, [], ◌∷◌, map}
use Rattle.client_core.specs.declared.lane.Lane.{Lane}

abbrev pub numbers_of : List Lane → List ℕ
numbers_of lanes = map (λ lane. lane.number) lanes

-- the number is none of these
abbrev pub IsOther : ℕ → List ℕ → Type 0
IsOther number [] = Unit {0}
IsOther number (n ∷ ns) = (n ≢ number) × IsOther number ns

abbrev pub AreOnce : List ℕ → Type 0
AreOnce [] = Unit {0}
AreOnce (n ∷ ns) = IsOther n ns × AreOnce ns

abbrev pub AreUpTo : ℕ → List ℕ → Type 0
AreUpTo most [] = Unit {0}
AreUpTo most (n ∷ ns) = (1 ≤ n) × (n ≤ most) × AreUpTo most ns

pub record AreLanes (lanes : List Lane) : Type 0 where
  pub once : AreOnce (numbers_of lanes)
  pub each : AreUpTo 16 (numbers_of lanes)

-- a lane that may begin: it is one of 1 to 16, and has no operation
pub record IsIdle (number : ℕ) (lanes : List Lane) : Type 0 where
  pub least : 1 ≤ number
  pub most : number ≤ 16
  pub other : IsOther number (numbers_of lanes)
