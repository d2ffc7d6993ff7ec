-- What datagrams tell: the calls in order, each with what the server did before it, and the server at each moment; and
-- the history that is read from them. One datagram is one record. (RFC 768; RFC 5531 section 9)
use Rattle.std.specs.Prelude.{◌≡◌, ◌≤◌, ◌==◌, ℕ, Bool, false, List, [], ◌∷◌, ◌++◌, Option, Some, None, Result, Ok, Err, if◌then◌else◌}
use Rattle.world_model.specs.declared.entry.Mark.{Mark}
use Rattle.world_model.specs.declared.entry.Entry.TheVariants as entries
use Rattle.world_model.specs.Entries.{ours}
use Rattle.world_model.specs.Server.{Server}
use Rattle.world_model.specs.History.{History}
use Rattle.world_model.specs.Lawful.{Lawful}
use Rattle.outside.specs.declared.link.LinkFault.{LinkFault}
use Rattle.outside.specs.declared.link.LinkFault.TheVariants as faults
use Rattle.outside.specs.declared.datagrams.DatagramEntry.{DatagramEntry}
use Rattle.outside.specs.declared.datagrams.DatagramEntry.TheVariants.{Aimed, Sent, Came, Noted, Missed}
use Rattle.outside.specs.declared.datagrams.Arrived.{Arrived}
use Rattle.outside.specs.declared.datagrams.Arrived.TheVariants as arrivals
use Rattle.outside.specs.Causes.{Rose}
use Rattle.outside.specs.Link.{entry_of}
use Rattle.outside.specs.Wire.{Step, entries_in}
use Rattle.outside.specs.Reading.{begins_at, adds, follows}

-- A call: what the server did since the call before, and then the one entry of the call's own.
pub record DatagramCall : Type 0 where
  pub quiet : List Step
  pub did : DatagramEntry

-- the server at the beginning, and the calls since; a call leaves the server as it is
pub record DatagramsTold : Type 0 where
  pub start : Server
  pub calls : List DatagramCall

-- One call was added; before it stand entries of the server only.
pub record AddsDatagram (old new : DatagramsTold) (did : DatagramEntry) : Type 0 where
  pub quiet : List Step
  pub grown : new ≡ record { start = old.start; calls = old.calls ++ record { quiet = quiet; did = did } ∷ [] }
  pub unseen : ours (entries_in quiet) ≡ []

-- a call that did something is told; one that found no memory isn't
abbrev pub AddsDatagrams : DatagramsTold → DatagramsTold → Option DatagramEntry → Type 0
AddsDatagrams old new None = new ≡ old
AddsDatagrams old new (Some did) = AddsDatagram old new did

-- The same of what datagrams may tell: those that tell go on telling, and those that don't never begin.
abbrev pub DatagramsTell : Option DatagramsTold → Option DatagramsTold → Option DatagramEntry → Type 0
DatagramsTell None new did = new ≡ None
DatagramsTell (Some old) None did = ⊥
DatagramsTell (Some old) (Some new) did = AddsDatagrams old new did

-- Before a mark the server did nothing.
abbrev pub NotesDatagram : DatagramsTold → DatagramsTold → Option DatagramEntry → Type 0
NotesDatagram old new None = new ≡ old
NotesDatagram old new (Some did) = new ≡ record { start = old.start; calls = old.calls ++ record { quiet = []; did = did } ∷ [] }

abbrev pub DatagramsNote : Option DatagramsTold → Option DatagramsTold → Option DatagramEntry → Type 0
DatagramsNote None new did = new ≡ None
DatagramsNote (Some old) None did = ⊥
DatagramsNote (Some old) (Some new) did = NotesDatagram old new did

-- an aim is told whether it could be taken or not
abbrev pub aimed_as : {T : Type 0} → ℕ → Result T LinkFault → Option DatagramEntry
aimed_as port (Ok x) = Some (Aimed port)
aimed_as port (Err faults.Failed) = Some (Aimed port)
aimed_as port (Err faults.Memory) = None

-- the datagram, if it went out
abbrev pub datagram_as : {T : Type 0} → List ℕ → Result T LinkFault → Option DatagramEntry
datagram_as bytes (Ok x) = Some (Sent bytes)
datagram_as bytes (Err faults.Failed) = Some Missed
datagram_as bytes (Err faults.Memory) = None

-- the whole datagram that came, with the port that it came from
abbrev pub arrived_as : List ℕ → Arrived → Option DatagramEntry
arrived_as bytes (arrivals.From port) = Some (Came port bytes)
arrived_as bytes arrivals.Silent = Some Missed
arrived_as bytes arrivals.Failed = Some Missed
arrived_as bytes arrivals.Memory = None

abbrev pub remarked_as : {T E : Type 0} → Mark → Result T E → Option DatagramEntry
remarked_as mark (Ok x) = Some (Noted mark)
remarked_as mark (Err e) = None

abbrev pub IfNoneCame : Arrived → Type 0 → Type 0
IfNoneCame (arrivals.From port) P = Unit {0}
IfNoneCame arrivals.Silent P = P
IfNoneCame arrivals.Failed P = P
IfNoneCame arrivals.Memory P = Unit {0}

-- The count of datagrams that are waited for: it never falls, and it rose if the call failed or none came in time.
pub record HasCauseArrived (before now : ℕ) (result : Arrived) : Type 0 where
  pub later : before ≤ now
  pub failed : IfNoneCame result (Rose before now)

-- the history so far, and the port that was aimed at last
pub record Heard : Type 0 where
  pub history : History
  pub aimed : Option ℕ

-- whether a datagram from that port is from the one aimed at
abbrev pub is_aimed : Option ℕ → ℕ → Bool
is_aimed None from = false
is_aimed (Some port) from = port == from

-- What a call's own entry shows. Each datagram that went out is sent, and each that came from the port last aimed at is
-- delivered; one from another port shows nothing.
abbrev pub shown : DatagramEntry → Heard → Heard
shown (Aimed port) h = record { history = adds h.history (entries.Dialed port); aimed = Some port }
shown (Sent bytes) h = record h { history = adds h.history (entries.Sent bytes) }
shown (Came from bytes) h = if is_aimed h.aimed from then record h { history = adds h.history (entries.Delivered bytes) } else h
shown (Noted mark) h = record h { history = adds h.history (entry_of mark) }
shown Missed h = h

abbrev pub hear_call : DatagramCall → Heard → Heard
hear_call c h = shown c.did (record h { history = follows c.quiet h.history })

abbrev pub hear_calls : List DatagramCall → Heard → Heard
hear_calls [] h = h
hear_calls (c ∷ cs) h = hear_calls cs (hear_call c h)

abbrev pub heard : DatagramsTold → Heard
heard t = hear_calls t.calls (record { history = begins_at t.start; aimed = None })

-- what is told, if anything is, is what an honest server and network make
abbrev pub AreLawful : Option DatagramsTold → Type 0
AreLawful None = Unit {0}
AreLawful (Some t) = Lawful (heard t).history
