-- A link that hands out given records.
use Rattle.std.specs.Prelude.{◌≡◌, ℕ, List, [], ◌∷◌, Result, Ok, Err}
use Rattle.world_model.specs.declared.entry.Entry.{Entry}
use Rattle.outside.specs.declared.link.LinkFault.{LinkFault}
use Rattle.outside.specs.declared.link.LinkFault.TheVariants as faults
use Rattle.outside.specs.declared.link.Received.{Received}
use Rattle.outside.specs.declared.link.Received.TheVariants as received

-- what a caller sees of it: its history, the records that are left, and the faults so far
pub record HostileView : Type 0 where
  pub entries : List Entry
  pub left : List (List ℕ)
  pub faults : ℕ

-- The next record came; or none was left, and it was silent; or memory ran out, and all are left.
abbrev pub HandsOut : List (List ℕ) → List (List ℕ) → List ℕ → Received → Type 0
HandsOut old new rec received.Whole = old ≡ rec ∷ new
HandsOut old new rec received.Silent = (old ≡ []) × (new ≡ [])
HandsOut old new rec received.Failed = ⊥
HandsOut old new rec received.Memory = new ≡ old

-- nothing fails but for lack of memory
abbrev pub NeverFails : {T : Type 0} → Result T LinkFault → Type 0
NeverFails (Ok x) = Unit {0}
NeverFails (Err faults.Failed) = ⊥
NeverFails (Err faults.Memory) = Unit {0}

-- No record was handed out, and no fault counted.
pub record HandsOutNone (old new : HostileView) : Type 0 where
  pub left : new.left ≡ old.left
  pub faults : new.faults ≡ old.faults
