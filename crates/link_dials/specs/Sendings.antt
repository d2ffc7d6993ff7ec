-- To which port each record goes, and that each call that waits is sent again after a failure (RFC 1813, sections 2.1, 4.5 and 5.1).
use Rattle.std.specs.Prelude.{◌≡◌, ◌≤◌, ◌<◌, ◌⊎◌, ℕ, List, [], ◌∷◌}
use Rattle.world_model.specs.declared.entry.Entry.{Entry}
use Rattle.world_model.specs.declared.entry.Entry.TheVariants.{Dialed, Sent, Failed}
use Rattle.world_model.specs.declared.message.Call.{Call}
use Rattle.world_model.specs.declared.message.Call.TheVariants as calls
use Rattle.world_model.specs.Entries.{At, ours}
use Rattle.world_model.specs.LanesTogether.{HasBegun}
use Rattle.world_model.specs.Messages.{HasXid, SpellsCall}
use Rattle.world_model.specs.Waiting.{Waits}

-- ---- ports

-- The latest dial before the place is of this port.
pub record DialedLast (h : List Entry) (place port : ℕ) : Type 0 where
  pub at : ℕ
  pub earlier : at < place
  pub dialed : At h at (Dialed port)
  pub latest : (i other : ℕ) → At h i (Dialed other) → i < place → i ≤ at

-- the port of the program that the call is of
abbrev pub port_for : ℕ → ℕ → Call → ℕ
port_for mount nfs (calls.File call) = nfs
port_for mount nfs (calls.Dir call) = nfs
port_for mount nfs (calls.Mount call) = mount

-- Each record goes to the port of its program. Only these two ports are dialed, and once that of NFS was, that of MOUNT no more.
pub record GoesToPorts (mount nfs : ℕ) (h : List Entry) : Type 0 where
  pub sent : (i xid : ℕ) (call : Call) (bytes : List ℕ) → At h i (Sent bytes) → SpellsCall xid call bytes → DialedLast h i (port_for mount nfs call)
  pub dialed : (i port : ℕ) → At h i (Dialed port) → (port ≡ mount) ⊎ (port ≡ nfs)
  pub turned : (i j port : ℕ) → At h i (Dialed nfs) → At h j (Dialed port) → i < j → port ≡ nfs

-- ---- after a failure

-- The client's latest entry before the place is this one.
pub record LatestIs (h : List Entry) (place : ℕ) (e : Entry) : Type 0 where
  pub at : ℕ
  pub earlier : at < place
  pub is : At h at e
  pub none : (j : ℕ) (d : Entry) → At h j d → at < j → j < place → ours (d ∷ []) ≡ []

-- a dial failed at the place, or the sending of a call that was made before the one under the xid
pub data FailsBefore (h : List Entry) (place xid : ℕ) : Type 0 where
  dialing : (port : ℕ) → LatestIs h place (Dialed port) → FailsBefore h place xid
  sending : (other : ℕ) (bytes : List ℕ) → LatestIs h place (Sent bytes) → HasXid bytes other → other < xid → FailsBefore h place xid

-- a record under the xid was sent between the places
pub record SentAgain (h : List Entry) (from to xid : ℕ) : Type 0 where
  pub at : ℕ
  pub bytes : List ℕ
  pub sent : At h at (Sent bytes)
  pub under : HasXid bytes xid
  pub after : from < at
  pub before : at < to

-- Since operations began: a call that was sent before a failure, and still waits at a later one, was sent again between the two. An exception: what fails at
-- the later one is a dial, or the sending of a call that was made before it. So no client waits for ever without sending.
abbrev pub Resends : List Entry → Type 0
Resends h = (i j xid : ℕ) (waits : Waits h xid j) → HasBegun h i → At h i Failed → At h j Failed → waits.at < i → i < j → SentAgain h i j xid ⊎ FailsBefore h j xid
