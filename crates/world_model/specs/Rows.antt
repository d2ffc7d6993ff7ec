-- Records that were dropped in a row, and records that were sent (RFC 5531, section 9).
use Rattle.std.specs.Prelude.{◌≡◌, ◌<◌, ℕ, suc, List}
use Rattle.world_model.specs.declared.entry.Entry.{Entry}
use Rattle.world_model.specs.declared.entry.Entry.TheVariants.{Sent, Delivered}
use Rattle.world_model.specs.Entries.{At}
use Rattle.world_model.specs.Messages.{HasXid}
use Rattle.world_model.specs.Waiting.{Drops}

-- The last n records that came before the place to were dropped.
pub data DropRun (h : List Entry) : ℕ → ℕ → Type 0 where
  begins : (n to : ℕ) → n ≡ 0 → DropRun h n to
  drops : (n to m at : ℕ) (bytes : List ℕ) → n ≡ suc m → DropRun h m at → Drops h at bytes → at < to
      → ((j : ℕ) (b : List ℕ) → At h j (Delivered b) → at < j → j < to → ⊥) → DropRun h n to

-- so many records in a row, none of which answers a call, and the session is lost
abbrev pub most_dropped : ℕ
most_dropped = 65536

-- a record under this xid was sent before the place to
pub record WasSent (h : List Entry) (x to : ℕ) : Type 0 where
  pub at : ℕ
  pub bytes : List ℕ
  pub sent : At h at (Sent bytes)
  pub under : HasXid bytes x
  pub before : at < to
