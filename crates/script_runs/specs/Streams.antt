-- What is read of a script, and what is written of the answers.
use Rattle.std.specs.Prelude.{◌≡◌, ◌≤◌, ◌+◌, ℕ, List, [], ◌++◌, length, take, Option, Some, None, Result, Ok, Err}
use Rattle.world_model.specs.Follows.{IsFront}
use Rattle.script_runs.specs.declared.input.ReadFault.{ReadFault}
use Rattle.script_runs.specs.declared.input.ReadFault.TheVariants as faults

-- one byte more than a script may have
unfoldable pub script_limit : ℕ
script_limit = 1048577

-- the text is what was left, up to so many bytes, if the source tells it
abbrev pub TakesUpTo : ℕ → Option (List ℕ) → List ℕ → Type 0
TakesUpTo limit None text = Unit {0}
TakesUpTo limit (Some left) text = text ≡ take limit left

-- what was left is read, up to the limit
abbrev pub TakesAll : Option (List ℕ) → List ℕ → Type 0
TakesAll left text = TakesUpTo script_limit left text

-- nothing was left, if the source tells it
abbrev pub IfSomeEmpty : Option (List ℕ) → Type 0
IfSomeEmpty None = Unit {0}
IfSomeEmpty (Some left) = left ≡ []

-- these bytes were taken from the front of what was left
abbrev pub HasTaken : Option (List ℕ) → Option (List ℕ) → List ℕ → Type 0
HasTaken None new text = Unit {0}
HasTaken (Some old) None text = ⊥
HasTaken (Some old) (Some new) text = old ≡ text ++ new

-- a piece of n bytes, at most so many, was added to the text; of none only at the end
pub record TakesPiece (old new : Option (List ℕ)) (text longer : List ℕ) (room n : ℕ) : Type 0 where
  pub fits : n ≤ room
  pub long : length longer ≡ length text + n
  pub more : (first : Option (List ℕ)) → HasTaken first old text → HasTaken first new longer
  pub ends : n ≡ 0 → IfSomeEmpty old

-- a fault of the source has this cause
abbrev pub HasFault : {T : Type 0} → Result T ReadFault → Type 0 → Type 0
HasFault (Ok x) P = Unit {0}
HasFault (Err faults.Failed) P = P
HasFault (Err faults.Memory) P = Unit {0}

-- the bytes were added, if the sink tells what was written
abbrev pub Appends : Option (List ℕ) → Option (List ℕ) → List ℕ → Type 0
Appends None new bytes = Unit {0}
Appends (Some old) None bytes = ⊥
Appends (Some old) (Some new) bytes = new ≡ old ++ bytes

-- a front of the bytes was added
abbrev pub AppendsFront : Option (List ℕ) → Option (List ℕ) → List ℕ → Type 0
AppendsFront None new bytes = Unit {0}
AppendsFront (Some old) None bytes = ⊥
AppendsFront (Some old) (Some new) bytes = (front : List ℕ) × (new ≡ old ++ front) × IsFront front bytes
