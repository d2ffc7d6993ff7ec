-- What calls of a link did, as the entries of the client that they added, in order.
use Rattle.std.specs.Prelude.{◌≡◌, ◌≤◌, ◌⊎◌, ℕ, List, [], ◌∷◌, Option}
use Rattle.world_model.specs.declared.entry.Entry.{Entry}
use Rattle.world_model.specs.declared.entry.Entry.TheVariants.{Failed}
use Rattle.world_model.specs.History.{History}
use Rattle.world_model.specs.Told.{Tells}
use Rattle.outside.specs.Causes.{Rose}

-- a failure stands among the entries
abbrev pub HasFailed : List Entry → Type 0
HasFailed [] = ⊥
HasFailed (e ∷ es) = (e ≡ Failed) ⊎ HasFailed es

-- These entries were added, with none but the server's between them; P is true of them; and the count of faults rose if
-- one of them is a failure.
pub record Does (old new : Option History) (before now : ℕ) (P : List Entry → Type 0) : Type 0 where
  pub entries : List Entry
  pub tells : Tells old new entries
  pub later : before ≤ now
  pub cause : HasFailed entries → Rose before now
  pub is : P entries
