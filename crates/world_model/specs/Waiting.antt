-- Which call a record answers: xids, and when they wait (RFC 5531, section 9: the xid of a reply is that of its call).
use Rattle.std.specs.Prelude.{◌≡◌, ◌<◌, ◌≤◌, ℕ, List}
use Rattle.world_model.specs.declared.entry.Entry.{Entry}
use Rattle.world_model.specs.declared.entry.Entry.TheVariants.{Sent, Delivered}
use Rattle.world_model.specs.Entries.{At}
use Rattle.world_model.specs.Messages.{HasXid}

-- At the place i the record under this xid was sent, the first one under it.
pub record FirstSent (h : List Entry) (i x : ℕ) (bytes : List ℕ) : Type 0 where
  pub sent : At h i (Sent bytes)
  pub under : HasXid bytes x
  pub first : (j : ℕ) (b : List ℕ) → At h j (Sent b) → HasXid b x → i ≤ j

-- The xid waits before the place n: a record under it was sent, and none under it came since.
pub record Waits (h : List Entry) (x n : ℕ) : Type 0 where
  pub at : ℕ
  pub bytes : List ℕ
  pub sent : At h at (Sent bytes)
  pub under : HasXid bytes x
  pub before : at < n
  pub unanswered : (j : ℕ) (b : List ℕ) → At h j (Delivered b) → HasXid b x → at < j → j < n → ⊥

-- The record that came at the place n answers no call: it has fewer than 4 bytes, or its xid doesn't wait.
pub record Drops (h : List Entry) (n : ℕ) (bytes : List ℕ) : Type 0 where
  pub got : At h n (Delivered bytes)
  pub idle : (x : ℕ) → HasXid bytes x → Waits h x n → ⊥

-- The record that came at the place n answers the call under the xid x.
pub record Answers (h : List Entry) (n x : ℕ) (bytes : List ℕ) : Type 0 where
  pub got : At h n (Delivered bytes)
  pub under : HasXid bytes x
  pub waits : Waits h x n

-- an entry that tells of a record that came
abbrev pub IsDelivered : Entry → Type 0
IsDelivered e = (bytes : List ℕ) × (e ≡ Delivered bytes)
