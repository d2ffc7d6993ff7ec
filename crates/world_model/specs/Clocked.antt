-- The clock's readings in a history: an operation's time is that at which it began.
use Rattle.std.specs.Prelude.{◌≡◌, ℕ, suc, List, [], ◌∷◌}
use Rattle.world_model.specs.declared.entry.Entry.{Entry}
use Rattle.world_model.specs.declared.entry.Entry.TheVariants.{Clock}
use Rattle.world_model.specs.Entries.{At}

-- the readings that were noted, in their order
abbrev pub clocks : List Entry → List ℕ
clocks [] = []
clocks (Clock ms ∷ es) = ms ∷ clocks es
clocks (e ∷ es) = clocks es

-- the entry just before the place n is a reading of the clock
pub record IsTimed (h : List Entry) (n : ℕ) : Type 0 where
  pub at : ℕ
  pub ms : ℕ
  pub next : n ≡ suc at
  pub read : At h at (Clock ms)
