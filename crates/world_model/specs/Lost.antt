-- How a session is lost.
use Rattle.std.specs.Prelude.{◌≡◌, ◌<◌, ◌≤◌, ℕ, List}
use Rattle.world_model.specs.declared.entry.Entry.{Entry}
use Rattle.world_model.specs.declared.entry.Entry.TheVariants.{Dialed, Sent, Delivered, Failed}
use Rattle.world_model.specs.Entries.{At}
use Rattle.world_model.specs.Messages.{HasXid}
use Rattle.world_model.specs.Rows.{DropRun, most_dropped}

-- A record under the xid was sent at the place `at`, and by the place to a transmission or a waiting failed.
pub record FailedAttempt (h : List Entry) (xid at to : ℕ) : Type 0 where
  pub bytes : List ℕ
  pub failed : ℕ
  pub sent : At h at (Sent bytes)
  pub under : HasXid bytes xid
  pub is : At h failed Failed
  pub after : at < failed
  pub before : failed < to

-- no record under the xid came between the places from and to
abbrev pub NoReply : List Entry → ℕ → ℕ → ℕ → Type 0
NoReply h xid from to = (j : ℕ) (bytes : List ℕ) → At h j (Delivered bytes) → HasXid bytes xid → from < j → j < to → ⊥

-- an entry that sends, brings or dials
pub data IsTraffic (entry : Entry) : Type 0 where
  sent : (bytes : List ℕ) → entry ≡ Sent bytes → IsTraffic entry
  came : (bytes : List ℕ) → entry ≡ Delivered bytes → IsTraffic entry
  dialed : (port : ℕ) → entry ≡ Dialed port → IsTraffic entry

-- The dial at the place `at` failed by the place to, and until then no record was sent or came, and nothing else was
-- dialed.
pub record FailedDial (h : List Entry) (at to : ℕ) : Type 0 where
  pub port : ℕ
  pub failed : ℕ
  pub dialed : At h at (Dialed port)
  pub is : At h failed Failed
  pub after : at < failed
  pub before : failed < to
  pub quiet : (j : ℕ) (entry : Entry) → At h j entry → at < j → j < to → IsTraffic entry → ⊥

-- What loses a session by the place to: four attempts of one call failed and no reply came; or four dials in a row
-- failed; or of the last 65,536 records that came none answered a call.
pub data Loses (h : List Entry) (to : ℕ) : Type 0 where
  given_up : (xid a b c d : ℕ) → FailedAttempt h xid a b → FailedAttempt h xid b c → FailedAttempt h xid c d → FailedAttempt h xid d to → NoReply h xid a to
      → Loses h to
  undialed : (a b c d : ℕ) → FailedDial h a b → FailedDial h b c → FailedDial h c d → FailedDial h d to → Loses h to
  dropped : DropRun h most_dropped to → Loses h to

-- Before the place n the session is lost.
pub record IsLost (h : List Entry) (n : ℕ) : Type 0 where
  pub to : ℕ
  pub by : to ≤ n
  pub loses : Loses h to
