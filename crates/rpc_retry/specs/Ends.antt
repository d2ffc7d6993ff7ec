-- What the calls end as, once a record that was given is let go.
use Rattle.std.specs.Prelude.{◌≡◌, List, ℕ, ⊤}
use Rattle.std.specs.Borrow.{Fml, RattleType, MutBor, follows_so}
use mathlib.Core.Option.{none}
use Rattle.rpc_retry.specs.declared.waiting.Waiting.{Waiting}
use Rattle.rpc_retry.specs.Held.{Held}
use Rattle.rpc_retry.specs.contracts.calls.Calls.{the_row}

module _ (P : RattleType) (h : MutBor (Held P.Denot)) where
  -- these calls wait, and all else is as it was
  abbrev pub ends_with : List (ℕ × Waiting P.Denot) → Fml
  ends_with calls = follows_so (the_row P) (the_row P) h.ghost_name none (λ _ _. ⊤) (λ n. n ≡ record h.now { calls = calls })
