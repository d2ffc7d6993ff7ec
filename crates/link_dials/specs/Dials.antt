-- Which ports are dialed, and where the records go that are sent meanwhile.
use Rattle.std.specs.Prelude.{◌≡◌, ◌≤◌, ◌++◌, ℕ, List, [], ◌∷◌, length, Option, Result, Ok, Err}
use Rattle.world_model.specs.declared.entry.Entry.{Entry}
use Rattle.world_model.specs.declared.entry.Entry.TheVariants.{Dialed, Sent}
use Rattle.world_model.specs.Entries.{At}
use Rattle.world_model.specs.History.{History}
use Rattle.world_model.specs.Told.{Relates}
use Rattle.link_dials.specs.Sendings.{DialedLast}

-- ---- one port

-- a dial is one of this port
abbrev pub IsDialOf : ℕ → Entry → Type 0
IsDialOf port (Dialed p) = p ≡ port
IsDialOf port e = Unit {0}

abbrev pub AreDialsOf : ℕ → List Entry → Type 0
AreDialsOf port [] = Unit {0}
AreDialsOf port (e ∷ es) = IsDialOf port e × AreDialsOf port es

-- a history goes on, and no other port is dialed
pub record Dials (port : ℕ) (h k : List Entry) : Type 0 where
  pub more : List Entry
  pub is : k ≡ h ++ more
  pub only : AreDialsOf port more

-- what a link tells goes on so
abbrev pub DialsOnly : ℕ → Option History → Option History → Type 0
DialsOnly port old new = Relates old new (Dials port)

-- ---- where records go

-- A history goes on, no other port is dialed, and each record that is sent goes to this one.
pub record SendsTo (port : ℕ) (h k : List Entry) : Type 0 where
  pub dials : Dials port h k
  pub sent : (i : ℕ) (bytes : List ℕ) → At k i (Sent bytes) → length h ≤ i → DialedLast k i port

-- the same, and if it succeeds what is sent next goes to the port, too
abbrev pub Reaches : {T E : Type 0} → ℕ → Result T E → List Entry → List Entry → Type 0
Reaches port (Ok x) h k = SendsTo port h k × DialedLast k (length k) port
Reaches port (Err e) h k = SendsTo port h k
