-- What a link over datagrams shows, and what its calls did.
use Rattle.std.specs.Prelude.{◌≡◌, ◌≢◌, ◌≤◌, ◌<◌, ◌+◌, ◌⊎◌, ℕ, false, List, [], ◌∷◌, ◌++◌, length, Option, Some, None, Result, Ok, Err}
use Rattle.world_model.specs.declared.entry.Entry.{Entry}
use Rattle.world_model.specs.declared.entry.Entry.TheVariants as entries
use Rattle.world_model.specs.History.{History}
use Rattle.world_model.specs.Told.{Tells}
use Rattle.outside.specs.declared.link.LinkFault.{LinkFault}
use Rattle.outside.specs.declared.link.LinkFault.TheVariants as faults
use Rattle.outside.specs.declared.link.Received.{Received}
use Rattle.outside.specs.declared.link.Received.TheVariants as received
use Rattle.outside.specs.declared.datagrams.DatagramEntry.{DatagramEntry}
use Rattle.outside.specs.declared.datagrams.DatagramEntry.TheVariants.{Sent, Came, Missed}
use Rattle.outside.specs.Causes.{Rose, HasCause}
use Rattle.outside.specs.Wire.{Step}
use Rattle.outside.specs.Datagrams.{DatagramCall, DatagramsTold, is_aimed}
use Rattle.outside.specs.declared.places.DatagramAdds.{DatagramAdds}
use Rattle.udp_link.specs.declared.link.TheConstants.{MOST_PASSED}
use Rattle.udp_link.specs.Placing.{now_of, told_of, heard_by, begun, after_calls, brought_by, delivered, latest}

-- What a link is: its datagrams and what it placed behind their calls, the faults of its datagrams and its own, and the
-- port that was dialed last.
pub record Held (D : Type 0) : Type 0 where
  pub over : D
  pub kept : List DatagramAdds
  pub below : ℕ
  pub own : ℕ
  pub port : Option ℕ

abbrev pub told_by : {D : Type 0} → (D → Option DatagramsTold) → Held D → Option History
told_by told s = told_of (now_of (told s.over) s.kept)

-- nothing is kept if the datagrams don't tell their calls
abbrev pub KeepsNone : Option DatagramsTold → List DatagramAdds → Type 0
KeepsNone None ks = ks ≡ []
KeepsNone (Some t) ks = Unit {0}

-- the history is empty, and begins with the server as the datagrams tell it
abbrev pub IsBegun : Option DatagramsTold → Option History → Type 0
IsBegun None now = now ≡ None
IsBegun (Some t) now = now ≡ Some (begun (after_calls t.start t.calls)).history

-- The records that were delivered are exactly these datagrams, in order, each whole. They came, since the link was made, from
-- the port dialed last before each.
abbrev pub DeliversExactly : Option DatagramsTold → List DatagramAdds → Type 0
DeliversExactly None ks = Unit {0}
DeliversExactly (Some t) ks = delivered (heard_by t ks).history.entries ≡ brought_by (latest (length ks) t.calls) None

-- the port, if it was dialed or tried to be
abbrev pub dialed_port : {T : Type 0} → Option ℕ → ℕ → Result T LinkFault → Option ℕ
dialed_port old port (Ok x) = Some port
dialed_port old port (Err faults.Failed) = Some port
dialed_port old port (Err faults.Memory) = old

-- A dial: it fails only by a fault of the datagrams.
pub record Dials {D T : Type 0} (old new : Held D) (port : ℕ) (result : Result T LinkFault) : Type 0 where
  pub cause : HasCause old.below new.below result
  pub own : new.own ≡ old.own
  pub dialed : new.port ≡ dialed_port old.port port result

-- One call of the datagrams was added, perhaps after entries of the server.
pub record AddsOne (t u : DatagramsTold) (did : DatagramEntry) : Type 0 where
  pub quiet : List Step
  pub grown : u.calls ≡ t.calls ++ record { quiet = quiet; did = did } ∷ []

abbrev pub Added : Option DatagramsTold → Option DatagramsTold → DatagramEntry → Type 0
Added None new did = new ≡ None
Added (Some t) None did = ⊥
Added (Some t) (Some u) did = AddsOne t u did

-- what became of a record that was to go out: it went out as one datagram, or none went out, or nothing was tried
abbrev pub WentOut : {D T : Type 0} → (D → Option DatagramsTold) → Held D → Held D → List ℕ → Result T LinkFault → Type 0
WentOut told old new rec (Ok x) = Added (told old.over) (told new.over) (Sent rec)
WentOut told old new rec (Err faults.Failed) = Added (told old.over) (told new.over) Missed
WentOut told old new rec (Err faults.Memory) = told new.over ≡ told old.over

-- A transmission: it fails only by a fault of the datagrams.
pub record Sends {D T : Type 0} (told : D → Option DatagramsTold) (old new : Held D) (rec : List ℕ) (result : Result T LinkFault) : Type 0 where
  pub cause : HasCause old.below new.below result
  pub own : new.own ≡ old.own
  pub port : new.port ≡ old.port
  pub went : WentOut told old new rec result

-- A note changes nothing but what is told.
pub record Notes {D : Type 0} (old new : Held D) : Type 0 where
  pub below : old.below ≤ new.below
  pub own : new.own ≡ old.own
  pub port : new.port ≡ old.port

-- ---- waiting

-- a datagram that came from another port than the one dialed
abbrev pub IsStranger : Option ℕ → DatagramEntry → Type 0
IsStranger port (Came from bytes) = is_aimed port from ≡ false
IsStranger port did = ⊥

abbrev pub AreStrangers : Option ℕ → List DatagramCall → Type 0
AreStrangers port [] = Unit {0}
AreStrangers port (c ∷ cs) = IsStranger port c.did × AreStrangers port cs

-- So many datagrams from other ports came, and nothing else.
pub record PassesOver (t u : DatagramsTold) (port : Option ℕ) (n : ℕ) : Type 0 where
  pub passed : List DatagramCall
  pub grown : u.calls ≡ t.calls ++ passed
  pub many : length passed ≡ n
  pub strangers : AreStrangers port passed

abbrev pub PassedOver : Option DatagramsTold → Option DatagramsTold → Option ℕ → ℕ → Type 0
PassedOver None new port n = new ≡ None
PassedOver (Some t) None port n = ⊥
PassedOver (Some t) (Some u) port n = PassesOver t u port n

-- So many datagrams from other ports came, and then a call did this.
pub record PassesThen (t u : DatagramsTold) (port : Option ℕ) (n : ℕ) (did : DatagramEntry) : Type 0 where
  pub mid : DatagramsTold
  pub passes : PassesOver t mid port n
  pub then_one : AddsOne mid u did

abbrev pub PassedThen : Option DatagramsTold → Option DatagramsTold → Option ℕ → ℕ → DatagramEntry → Type 0
PassedThen None new port n did = new ≡ None
PassedThen (Some t) None port n did = ⊥
PassedThen (Some t) (Some u) port n did = PassesThen t u port n did

-- so many datagrams were passed over, and these entries added
pub record Passes {D : Type 0} (told : D → Option DatagramsTold) (n : ℕ) (es : List Entry) (old new : Held D) : Type 0 where
  pub tells : Tells (told_by told old) (told_by told new) es
  pub passed : PassedOver (told old.over) (told new.over) old.port n
  pub below : old.below ≤ new.below
  pub port : new.port ≡ old.port

-- a wait that goes on after so many
pub record GoesOn {D : Type 0} (told : D → Option DatagramsTold) (n : ℕ) (old new : Held D) : Type 0 where
  pub passes : Passes told n [] old new
  pub own : new.own ≡ old.own

-- a wait that ended with a call after so many
pub record Ends {D : Type 0} (told : D → Option DatagramsTold) (n : ℕ) (did : DatagramEntry) (es : List Entry) (old new : Held D) : Type 0 where
  pub tells : Tells (told_by told old) (told_by told new) es
  pub passed : PassedThen (told old.over) (told new.over) old.port n did
  pub below : old.below ≤ new.below
  pub port : new.port ≡ old.port
  pub own : new.own ≡ old.own

-- a record came: a datagram from the port dialed last, whole
abbrev pub Takes : {D : Type 0} → (D → Option DatagramsTold) → ℕ → List ℕ → Held D → Held D → Type 0
Takes told n rec old new = (port : ℕ) × (old.port ≡ Some port) × Ends told n (Came port rec) (entries.Delivered rec ∷ []) old new

-- none came, by a fault of the datagrams
abbrev pub Misses : {D : Type 0} → (D → Option DatagramsTold) → ℕ → Held D → Held D → Type 0
Misses told n old new = Rose old.below new.below × Ends told n Missed (entries.Failed ∷ []) old new

-- too many came from other ports, which the link counts as a fault of its own
abbrev pub GivesUp : {D : Type 0} → (D → Option DatagramsTold) → ℕ → Held D → Held D → Type 0
GivesUp told n old new = (old.own ≤ new.own) × Rose old.own new.own × Passes told n (entries.Failed ∷ []) old new

-- what one turn of a wait came to, after so many
abbrev pub Turned : {D : Type 0} → (D → Option DatagramsTold) → ℕ → List ℕ → Option Received → Held D → Held D → Type 0
Turned told n rec None old new = (n + 1 ≢ MOST_PASSED) × GoesOn told 1 old new
Turned told n rec (Some received.Whole) old new = Takes told 0 rec old new
Turned told n rec (Some received.Silent) old new = Misses told 0 old new ⊎ ((n + 1 ≡ MOST_PASSED) × GivesUp told 1 old new)
Turned told n rec (Some received.Failed) old new = Misses told 0 old new
Turned told n rec (Some received.Memory) old new = GoesOn told 0 old new

-- What a wait came to: a record from the port dialed last after fewer than 1,024 datagrams from others, or none. It is silent
-- after 1,024 of these, and else only by a fault of the datagrams, as when it fails.
abbrev pub Waited : {D : Type 0} → (D → Option DatagramsTold) → List ℕ → Received → Held D → Held D → Type 0
Waited told rec received.Whole old new = (n : ℕ) × (n < MOST_PASSED) × Takes told n rec old new
Waited told rec received.Silent old new = ((n : ℕ) × (n < MOST_PASSED) × Misses told n old new) ⊎ GivesUp told MOST_PASSED old new
Waited told rec received.Failed old new = (n : ℕ) × (n < MOST_PASSED) × Misses told n old new
Waited told rec received.Memory old new = (n : ℕ) × (n < MOST_PASSED) × GoesOn told n old new
