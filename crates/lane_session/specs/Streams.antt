-- What is written, what the clock gave and what the link tells, from one moment of a session to a later one.
use Rattle.std.specs.Prelude.{◌≡◌, ℕ, List, ◌++◌, Option, Some, None}
use Rattle.world_model.specs.declared.entry.Entry.{Entry}
use Rattle.world_model.specs.Follows.{IsFront}
use Rattle.world_model.specs.History.{History}
use Rattle.world_model.specs.Told.{Relates}
use Rattle.outside.specs.Clock.{ReadsClock}

-- the bytes were added, if the sink tells what was written
abbrev pub Appends : Option (List ℕ) → Option (List ℕ) → List ℕ → Type 0
Appends None new bytes = Unit {0}
Appends (Some old) None bytes = ⊥
Appends (Some old) (Some new) bytes = new ≡ old ++ bytes

-- a text was added, if the sink tells what was written, and it is so
pub record Says (old new : Option (List ℕ)) (P : List ℕ → Type 0) : Type 0 where
  pub text : List ℕ
  pub added : Appends old new text
  pub is : P text

-- a front of the bytes
abbrev pub IsFrontOf : List ℕ → List ℕ → Type 0
IsFrontOf whole front = IsFront front whole

-- these are the readings that the clock gave, as far as it tells them
abbrev pub ReadsAll : Option (List ℕ) → Option (List ℕ) → List ℕ → Type 0
ReadsAll None new given = new ≡ None
ReadsAll (Some old) None given = Unit {0}
ReadsAll (Some old) (Some new) given = new ≡ old ++ given

-- the clock was read, and what is so of the readings
pub record Reads (old new : Option (List ℕ)) (P : List ℕ → Type 0) : Type 0 where
  pub given : List ℕ
  pub are : ReadsAll old new given
  pub is : P given

-- the clock was read once, and what is so of the reading
pub record ReadsOnce (old new : Option (List ℕ)) (P : ℕ → Type 0) : Type 0 where
  pub ms : ℕ
  pub reads : ReadsClock old new ms
  pub is : P ms

-- What calls lead from and to: readings were given, a text was written, and by them the history goes on.
pub record Passes (read_old read_new : Option (List ℕ)) (told_old told_new : Option History) (written_old written_new : Option (List ℕ))
    (R : List ℕ → List ℕ → List Entry → List Entry → Type 0) : Type 0 where
  pub given : List ℕ
  pub read : ReadsAll read_old read_new given
  pub text : List ℕ
  pub added : Appends written_old written_new text
  pub told : Relates told_old told_new (λ h k. R given text h k)
