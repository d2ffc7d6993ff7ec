-- The lanes of a script run together from the place in the history at which the script could begin.
use Rattle.std.specs.Prelude.{◌≤◌, ◌⊎◌, ℕ, List}
use Rattle.world_model.specs.declared.entry.Entry.{Entry}
use Rattle.world_model.specs.declared.entry.Entry.TheVariants.{Began, Delivered}
use Rattle.world_model.specs.declared.op.Op.{Op}
use Rattle.world_model.specs.Entries.{At}
use Rattle.world_model.specs.LanesTogether.{LineAnswered, IsBusy}

-- Whenever a record came since the place, each line of the script was answered, or its lane has one under way.
abbrev pub TogetherFrom : ℕ → List Entry → List Entry → Type 0
TogetherFrom from script h = (n : ℕ) (bytes : List ℕ) → At h n (Delivered bytes) → from ≤ n
    → (k lane line : ℕ) (op : Op) → At script k (Began lane line op) → LineAnswered h lane line n ⊎ IsBusy h lane n
