-- When the calls that wait were sent last, and that they are due again after a failure (RFC 5531, section 9).
use Rattle.std.specs.Prelude.{◌≡◌, ◌<◌, ℕ, List, [], ◌∷◌, true, false}
use Rattle.rpc_retry.specs.declared.waiting.Waiting.{Waiting}
use Rattle.world_model.specs.declared.entry.Entry.{Entry}
use Rattle.world_model.specs.declared.entry.Entry.TheVariants.{Sent, Failed}
use Rattle.world_model.specs.Entries.{At}
use Rattle.world_model.specs.Messages.{HasXid}
use Rattle.link_dials.specs.Sendings.{Resends}
use Rattle.client_core.specs.declared.lane.Purpose.{Purpose}
use Rattle.client_core.specs.View.{View}

-- a record under the xid was sent after each failure
pub record SentLate (h : List Entry) (xid : ℕ) : Type 0 where
  pub at : ℕ
  pub bytes : List ℕ
  pub sent : At h at (Sent bytes)
  pub under : HasXid bytes xid
  pub late : (j : ℕ) → At h j Failed → j < at

-- each of the calls that isn't due was
abbrev pub AllLate : List Entry → List (ℕ × Waiting Purpose) → Type 0
AllLate h [] = Unit {0}
AllLate h (e ∷ es) = (e.1.due ≡ false → SentLate h e.0) × AllLate h es

abbrev pub AllDue : List (ℕ × Waiting Purpose) → Type 0
AllDue [] = Unit {0}
AllDue (e ∷ es) = (e.1.due ≡ true) × AllDue es

-- each call that waits is due, unless the session is lost
abbrev pub DueAgain : View → Type 0
DueAgain v = v.lost ≡ false → AllDue v.calls.calls

-- Calls are sent again after a failure, and unless the session is lost each that waits and isn't due was sent since the latest one.
pub record SendsAgain (h : List Entry) (v : View) : Type 0 where
  pub resends : Resends h
  pub late : v.lost ≡ false → AllLate h v.calls.calls
