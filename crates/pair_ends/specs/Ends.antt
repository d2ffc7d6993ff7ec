-- What stays as one end of a link is used.
use Rattle.std.specs.Prelude.{◌≡◌, ◌-◌, ℕ, List, [], ◌++◌, Option, Some, None}
use Rattle.std.specs.Option.{option_map}
use Rattle.world_model.specs.Entries.{ours}
use Rattle.world_model.specs.Told.{IsLawful}
use Rattle.outside.specs.Pairs.{PairStep, PairTold, PairLawful, seen_by, side}
use Rattle.pair_ends.specs.declared.side.Side.{Side}
use Rattle.pair_ends.specs.declared.side.Side.TheVariants as sides

abbrev pub number_of : Side → ℕ
number_of sides.A = 0
number_of sides.B = 1

-- Steps were added, and none is of the client at the other end.
pub record AddsAlone (end : ℕ) (old new : PairTold) : Type 0 where
  pub more : List PairStep
  pub grown : new ≡ record { start = old.start; steps = old.steps ++ more }
  pub unseen : ours (seen_by (1 - end) more) ≡ []

abbrev pub Spares : ℕ → Option PairTold → Option PairTold → Type 0
Spares end None new = Unit {0}
Spares end (Some old) None = ⊥
Spares end (Some old) (Some new) = AddsAlone end old new

-- what both see is lawful, so what one sees is
pub side-lawful : (s : Side) (t : Option PairTold) → PairLawful t → IsLawful (option_map (side (number_of s)) t)
side-lawful s None l = tt
side-lawful sides.A (Some t) l = l.first
side-lawful sides.B (Some t) l = l.second
