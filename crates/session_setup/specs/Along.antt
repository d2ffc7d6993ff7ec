-- How what a link tells goes on.
use Rattle.std.specs.Prelude.{◌≡◌, List, ◌++◌, Option}
use Rattle.world_model.specs.declared.entry.Entry.{Entry}
use Rattle.world_model.specs.History.{History}
use Rattle.world_model.specs.Told.{Relates}

-- a history goes on as another
pub record Extends (h k : List Entry) : Type 0 where
  pub more : List Entry
  pub is : k ≡ h ++ more

-- A link that told a history goes on telling: its history goes on, and the two are so related.
abbrev pub Along : Option History → Option History → (List Entry → List Entry → Type 0) → Type 0
Along old new R = Relates old new (λ h k. Extends h k × R h k)
