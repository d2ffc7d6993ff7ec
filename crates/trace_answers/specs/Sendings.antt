-- Records that were sent, and that came.
use Rattle.std.specs.Prelude.{◌<◌, ◌≤◌, ℕ, List}
use Rattle.world_model.specs.declared.entry.Entry.{Entry}
use Rattle.world_model.specs.declared.entry.Entry.TheVariants.{Sent, Delivered}
use Rattle.world_model.specs.Entries.{At}
use Rattle.world_model.specs.Messages.{HasXid}
use Rattle.world_model.specs.Waiting.{FirstSent}

-- no record was sent under the xid
abbrev pub NeverSent : List Entry → ℕ → Type 0
NeverSent h x = (i : ℕ) (bytes : List ℕ) → At h i (Sent bytes) → HasXid bytes x → ⊥

-- at the place i the first record under the xid was sent
abbrev pub FirstSentAt : List Entry → ℕ → ℕ → Type 0
FirstSentAt h x i = (bytes : List ℕ) × FirstSent h i x bytes

-- no record came before the place n
abbrev pub NoRecord : List Entry → ℕ → Type 0
NoRecord h n = (j : ℕ) (bytes : List ℕ) → At h j (Delivered bytes) → j < n → ⊥

-- the last record that came before the place n came at the place i
pub record IsLastRecord (h : List Entry) (n i : ℕ) : Type 0 where
  pub bytes : List ℕ
  pub got : At h i (Delivered bytes)
  pub before : i < n
  pub last : (j : ℕ) (other : List ℕ) → At h j (Delivered other) → j < n → j ≤ i
