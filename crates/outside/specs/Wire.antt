-- What a wire tells: its calls in order, each with what the server did before it, and the server at each moment. (RFC
-- 5531 section 11 has the bytes.)
use Rattle.std.specs.Prelude.{◌≡◌, ◌≤◌, ◌<◌, ℕ, List, [], ◌∷◌, ◌++◌, take, length, Option, Some, None, Result, Ok, Err}
use Rattle.world_model.specs.declared.entry.Mark.{Mark}
use Rattle.world_model.specs.declared.entry.Entry.{Entry}
use Rattle.world_model.specs.Entries.{ours}
use Rattle.world_model.specs.Server.{Server}
use Rattle.outside.specs.declared.link.LinkFault.{LinkFault}
use Rattle.outside.specs.declared.link.LinkFault.TheVariants as faults
use Rattle.outside.specs.declared.wire.WireEntry.{WireEntry}
use Rattle.outside.specs.declared.wire.WireEntry.TheVariants.{Connected, Wrote, Read, Noted, Missed}
use Rattle.outside.specs.declared.wire.WireRead.{WireRead}
use Rattle.outside.specs.declared.wire.WireRead.TheVariants as reads
use Rattle.outside.specs.Causes.{Rose}

-- an entry of the server, and the server after it
pub record Step : Type 0 where
  pub entry : Entry
  pub after : Server

-- A call: what the server did since the call before, and then the one entry of the call's own.
pub record WireCall : Type 0 where
  pub quiet : List Step
  pub did : WireEntry

-- the server at the beginning, and the calls since; a call leaves the server as it is
pub record WireTold : Type 0 where
  pub start : Server
  pub calls : List WireCall

abbrev pub entries_in : List Step → List Entry
entries_in [] = []
entries_in (s ∷ steps) = s.entry ∷ entries_in steps

-- One call was added; before it stand entries of the server only.
pub record AddsCall (old new : WireTold) (did : WireEntry) : Type 0 where
  pub quiet : List Step
  pub grown : new ≡ record { start = old.start; calls = old.calls ++ record { quiet = quiet; did = did } ∷ [] }
  pub unseen : ours (entries_in quiet) ≡ []

-- a call that did something is told; one that found no memory isn't
abbrev pub AddsCalls : WireTold → WireTold → Option WireEntry → Type 0
AddsCalls old new None = new ≡ old
AddsCalls old new (Some did) = AddsCall old new did

-- The same of what a wire may tell: one that tells goes on telling, and one that doesn't never begins.
abbrev pub WireTells : Option WireTold → Option WireTold → Option WireEntry → Type 0
WireTells None new did = new ≡ None
WireTells (Some old) None did = ⊥
WireTells (Some old) (Some new) did = AddsCalls old new did

-- Before a mark the server did nothing.
abbrev pub NotesCall : WireTold → WireTold → Option WireEntry → Type 0
NotesCall old new None = new ≡ old
NotesCall old new (Some did) = new ≡ record { start = old.start; calls = old.calls ++ record { quiet = []; did = did } ∷ [] }

abbrev pub WireNotes : Option WireTold → Option WireTold → Option WireEntry → Type 0
WireNotes None new did = new ≡ None
WireNotes (Some old) None did = ⊥
WireNotes (Some old) (Some new) did = NotesCall old new did

-- a connection is told whether it came about or not
abbrev pub connected_as : {T : Type 0} → ℕ → Result T LinkFault → Option WireEntry
connected_as port (Ok x) = Some (Connected port)
connected_as port (Err faults.Failed) = Some (Connected port)
connected_as port (Err faults.Memory) = None

-- the bytes that were taken, from the front of the piece
abbrev pub wrote_as : List ℕ → Result ℕ LinkFault → Option WireEntry
wrote_as piece (Ok n) = Some (Wrote (take n piece))
wrote_as piece (Err faults.Failed) = Some Missed
wrote_as piece (Err faults.Memory) = None

-- the bytes that came, in the front of the buffer
abbrev pub read_as : List ℕ → WireRead → Option WireEntry
read_as buf (reads.Got n) = Some (Read (take n buf))
read_as buf reads.Silent = Some Missed
read_as buf reads.Failed = Some Missed
read_as buf reads.Memory = None

abbrev pub marked_as : {T E : Type 0} → Mark → Result T E → Option WireEntry
marked_as mark (Ok x) = Some (Noted mark)
marked_as mark (Err e) = None

-- what holds of the count if bytes came
abbrev pub IfGot : WireRead → (ℕ → Type 0) → Type 0
IfGot (reads.Got n) P = P n
IfGot reads.Silent P = Unit {0}
IfGot reads.Failed P = Unit {0}
IfGot reads.Memory P = Unit {0}

-- how many bytes came: at least one, and no more than there is room for
pub record GetsSome (buf : List ℕ) (n : ℕ) : Type 0 where
  pub fits : n ≤ length buf
  pub some : 0 < n

abbrev pub IfMissed : WireRead → Type 0 → Type 0
IfMissed (reads.Got n) P = Unit {0}
IfMissed reads.Silent P = P
IfMissed reads.Failed P = P
IfMissed reads.Memory P = Unit {0}

-- The count of a wire that waits: it never falls, and it rose if the call failed or no bytes came in time.
pub record HasCauseRead (before now : ℕ) (result : WireRead) : Type 0 where
  pub later : before ≤ now
  pub failed : IfMissed result (Rose before now)
