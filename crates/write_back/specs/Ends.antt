-- What is pending once a piece that was shown is let go.
use Rattle.std.specs.Prelude.{⊤}
use Rattle.std.specs.Borrow.{Fml, MutBor, follows_so}
use mathlib.Core.Option.{none}
use Rattle.write_back.specs.Files.{Pending}
use Rattle.write_back.specs.contracts.write_back.WriteBack.{the_row}

module _ (p : MutBor Pending) where
  -- then this holds of it
  abbrev pub ends_so : (Pending → Type 0) → Fml
  ends_so P = follows_so the_row the_row p.ghost_name none (λ _ _. ⊤) P
