-- What the core ends as, once a record that was given is let go.
use Rattle.std.specs.Prelude.{⊤}
use Rattle.std.specs.Borrow.{Fml, MutBor, follows_so}
use mathlib.Core.Option.{none}
use Rattle.client_core.specs.View.{View}
use Rattle.client_core.specs.contracts.client.Core.{the_row}

abbrev pub ends_as : MutBor View → (View → Type 0) → Fml
ends_as h P = follows_so the_row the_row h.ghost_name none (λ _ _. ⊤) P
