-- What a link over a wire shows, and what it keeps of the bytes.
use Rattle.std.specs.Prelude.{◌≡◌, ◌≤◌, ◌<◌, ℕ, zero, suc, List, [], ◌++◌, length, take, Option, Some, None, Result, Ok, Err}
use Rattle.world_model.specs.Told.{Tells}
use Rattle.outside.specs.declared.link.Received.{Received}
use Rattle.outside.specs.declared.link.Received.TheVariants as received
use Rattle.outside.specs.declared.link.LinkFault.{LinkFault}
use Rattle.outside.specs.declared.link.LinkFault.TheVariants as faults
use Rattle.outside.specs.declared.wire.WireEntry.TheVariants.{Read, Missed}
use Rattle.outside.specs.Causes.{Rose, HasCause}
use Rattle.outside.specs.Link.{received_as}
use Rattle.outside.specs.declared.places.WireAdds.TheVariants as added
use Rattle.rpc_record.specs.declared.gather.Phase.{Phase}
use Rattle.rpc_record.specs.declared.gather.Phase.TheVariants as phases
use Rattle.rpc_record.specs.declared.sending.SendState.{SendState}
use Rattle.rpc_record.specs.declared.sending.SendState.TheVariants as sendings
use Rattle.outside.specs.Records.{left, nth_record}
use Rattle.rpc_record.specs.Records.{one_fragment}
use Rattle.rpc_record.specs.Limits.{found_at}
use Rattle.rpc_record.specs.Limits as limits
use Rattle.rpc_record.specs.Gather.{Gathered, resumes}
use Rattle.outside.specs.Wire.{WireTold}
use Rattle.outside.specs.declared.places.WirePlace.{WirePlace}
use Rattle.world_model.specs.History.{History}
use Rattle.rpc_record.specs.Stream.{Stream, Along, now_of, Goes, Did, told_of}

-- What a caller sees: what is known of its streams, and the faults of its wire and its own; what became of the records
-- that were sent since the latest connection; and where in a record the bytes that came end.
pub record Shown : Type 0 where
  pub now : Option Stream
  pub wire : ℕ
  pub own : ℕ
  pub sending : SendState
  pub phase : Phase

-- what a link is: its wire and what it placed behind the wire's calls, and the rest of what it shows
pub record Held (W : Type 0) : Type 0 where
  pub over : W
  pub kept : List WirePlace
  pub wire : ℕ
  pub own : ℕ
  pub sending : SendState
  pub phase : Phase

abbrev pub shown_by : {W : Type 0} → (W → Option WireTold) → Held W → Shown
shown_by told h = record { now = now_of (told h.over) h.kept; wire = h.wire; own = h.own; sending = h.sending; phase = h.phase }

abbrev pub told_by : {W : Type 0} → (W → Option WireTold) → Held W → Option History
told_by told h = told_of (now_of (told h.over) h.kept)

-- the line that it stands on
abbrev pub line_of : {W : Type 0} → Held W → Along W
line_of h = record { over = h.over; kept = h.kept; faults = h.wire }

-- the record that is put together, and the bytes that came and aren't in it yet
pub record Waiting : Type 0 where
  pub gather : Gathered
  pub unread : List ℕ

abbrev pub IsLeft : Option (List ℕ) → ℕ → List ℕ → Type 0
IsLeft None n bytes = Unit {0}
IsLeft (Some rest) n bytes = left n bytes ≡ Some rest

-- What is kept is what the stream makes of the bytes: those after the delivered records make the same record, whatever
-- follows; and after the records that were sent nothing is left, if none went out in part.
pub record Keeps (s : Stream) (w : Waiting) (unsent : Option (List ℕ)) : Type 0 where
  pub pending : List ℕ
  pub came : left s.taken s.came ≡ Some pending
  pub reads : (more : List ℕ) → found_at (pending ++ more) ≡ resumes w.gather (w.unread ++ more)
  pub went : IsLeft unsent s.sent s.went

abbrev pub Follows : Option Stream → Waiting → Option (List ℕ) → Type 0
Follows None w unsent = Unit {0}
Follows (Some s) w unsent = Keeps s w unsent

-- after a record that went out in part nothing is known of what is left
abbrev pub partly : SendState → Option (List ℕ)
partly sendings.Fine = Some []
partly sendings.Broken = None
partly sendings.Starved = None

-- After a wait the bytes that came are those to be read; if none came, the failure was placed.
abbrev pub Fills : Option Stream → Option Stream → List ℕ → Option Received → Type 0
Fills r q unread None = Goes r q (Did (Some (Read unread)) added.Nothing)
Fills r q unread (Some received.Whole) = ⊥
Fills r q unread (Some received.Silent) = (unread ≡ []) × Goes r q (Did (Some Missed) added.Failed)
Fills r q unread (Some received.Failed) = (unread ≡ []) × Goes r q (Did (Some Missed) added.Failed)
Fills r q unread (Some received.Memory) = (unread ≡ []) × Goes r q (λ s t. t ≡ s)

abbrev pub IfMissed : Option Received → Type 0 → Type 0
IfMissed None P = Unit {0}
IfMissed (Some received.Whole) P = Unit {0}
IfMissed (Some received.Silent) P = P
IfMissed (Some received.Failed) P = P
IfMissed (Some received.Memory) P = Unit {0}

-- the wire's count never falls, and it rose if no byte came
pub record HasCauseFilled (before now : ℕ) (result : Option Received) : Type 0 where
  pub later : before ≤ now
  pub failed : IfMissed result (Rose before now)

-- the record ended, or no byte is left
abbrev pub IsDone : Phase → List ℕ → Type 0
IsDone phases.Header unread = unread ≡ []
IsDone (phases.Body n more) unread = unread ≡ []
IsDone phases.Whole unread = Unit {0}
IsDone phases.Long unread = Unit {0}

-- The bytes that came since the latest connection hold, after the delivered records, one that is past the limits.
pub record HoldsLong (s : Stream) : Type 0 where
  pub pending : List ℕ
  pub came : left s.taken s.came ≡ Some pending
  pub long : found_at pending ≡ limits.Long

abbrev pub IfStream : Option Stream → (Stream → Type 0) → Type 0
IfStream None P = Unit {0}
IfStream (Some s) P = P s

-- why a wait came to nothing: the wire's fault, or a record past the limits, which the link counts as a fault of its
-- own
pub data FailedWait (old new : Shown) : Type 0 where
  by_wire : Rose old.wire new.wire → FailedWait old new
  by_long : Rose old.own new.own → new.phase ≡ phases.Long → IfStream new.now HoldsLong → FailedWait old new

abbrev pub Because : Shown → Shown → Received → Type 0
Because old new received.Whole = Unit {0}
Because old new received.Silent = Rose old.wire new.wire
Because old new received.Failed = FailedWait old new
Because old new received.Memory = Unit {0}

-- no byte was taken, after a record past the limits
pub record Stays (old new : Shown) : Type 0 where
  pub phase : new.phase ≡ phases.Long
  pub came : Goes old.now new.now (λ s t. t.came ≡ s.came)

abbrev pub Shut : Shown → Shown → Received → Type 0
Shut old new received.Whole = ⊥
Shut old new received.Silent = ⊥
Shut old new received.Failed = Stays old new
Shut old new received.Memory = Stays old new

-- A wait: its cause, and what stays. After a record past the limits no byte is taken and none is delivered.
pub record Waits (old new : Shown) (result : Received) : Type 0 where
  pub wire : old.wire ≤ new.wire
  pub own : old.own ≤ new.own
  pub sending : new.sending ≡ old.sending
  pub because : Because old new result
  pub shut : old.phase ≡ phases.Long → Shut old new result

-- the record that is delivered is the next of those in the bytes that were read since the latest connection
abbrev pub NextIs : List ℕ → Received → Stream → Stream → Type 0
NextIs rec received.Whole s t = (nth_record s.taken t.came ≡ Some rec) × (t.taken ≡ suc s.taken)
NextIs rec received.Silent s t = t.taken ≡ s.taken
NextIs rec received.Failed s t = t.taken ≡ s.taken
NextIs rec received.Memory s t = t.taken ≡ s.taken

-- What a wait does to the bytes: more may have been read, none was written.
pub record Hears (rec : List ℕ) (result : Received) (s t : Stream) : Type 0 where
  pub more : List ℕ
  pub came : t.came ≡ s.came ++ more
  pub went : t.went ≡ s.went
  pub next : NextIs rec result s t

-- one turn of a wait: it goes on, or comes to an end
pub record Turned (old new : Shown) (rec : List ℕ) (result : Received) : Type 0 where
  pub tells : Tells (told_of old.now) (told_of new.now) (received_as rec result)
  pub hears : Goes old.now new.now (Hears rec result)
  pub waits : Waits old new result

pub record Heard (s t : Stream) : Type 0 where
  pub more : List ℕ
  pub came : t.came ≡ s.came ++ more
  pub went : t.went ≡ s.went
  pub taken : t.taken ≡ s.taken

pub record GoesOn (old new : Shown) : Type 0 where
  pub tells : Tells (told_of old.now) (told_of new.now) []
  pub heard : Goes old.now new.now Heard
  pub wire : old.wire ≤ new.wire
  pub own : new.own ≡ old.own
  pub sending : new.sending ≡ old.sending
  pub shut : old.phase ≡ phases.Long → Stays old new

abbrev pub Turns : Shown → Shown → List ℕ → Option Received → Type 0
Turns old new rec None = GoesOn old new
Turns old new rec (Some result) = Turned old new rec result

-- what the connection is good for after a transmission that failed, by how much of the record was taken
abbrev pub left_by : ℕ → LinkFault → SendState
left_by zero fault = sendings.Fine
left_by (suc n) faults.Failed = sendings.Broken
left_by (suc n) faults.Memory = sendings.Starved

-- So many bytes of a record were taken before its sending failed, and not all.
pub record TookPart (fault : LinkFault) (sending : SendState) (text : List ℕ) (s t : Stream) : Type 0 where
  pub at : ℕ
  pub part : at < length text
  pub went : t.went ≡ s.went ++ take at text
  pub leaves : sending ≡ left_by at fault

-- What a transmission wrote if all before it went out whole or not at all: the record as one fragment, or a part of
-- that.
abbrev pub Writes : {T : Type 0} → List ℕ → Result T LinkFault → SendState → Stream → Stream → Type 0
Writes rec (Ok x) sending s t = (sending ≡ sendings.Fine) × (t.went ≡ s.went ++ one_fragment rec)
Writes rec (Err fault) sending s t = TookPart fault sending (one_fragment rec) s t

-- why a transmission failed: the wire's fault; or an earlier record that went out in part on the same connection, which
-- the link counts as a fault of its own
abbrev pub FailedSend : SendState → Shown → Shown → Type 0
FailedSend sendings.Fine old new = Rose old.wire new.wire
FailedSend sendings.Broken old new = Rose old.own new.own
FailedSend sendings.Starved old new = ⊥

-- After a part of a record went out nothing more is written; the answer is that the link failed, or that memory runs
-- out.
abbrev pub SendsIn : {T : Type 0} → SendState → Shown → Shown → List ℕ → Result T LinkFault → Type 0
SendsIn sendings.Fine old new rec result = Goes old.now new.now (Writes rec result new.sending)
SendsIn sendings.Broken old new rec (Ok x) = ⊥
SendsIn sendings.Broken old new rec (Err e) = (new.sending ≡ sendings.Broken) × Goes old.now new.now (λ s t. t.went ≡ s.went)
SendsIn sendings.Starved old new rec (Ok x) = ⊥
SendsIn sendings.Starved old new rec (Err faults.Failed) = ⊥
SendsIn sendings.Starved old new rec (Err faults.Memory) = new ≡ old

abbrev pub IfSendFailed : {T : Type 0} → Result T LinkFault → Type 0 → Type 0
IfSendFailed (Ok x) P = Unit {0}
IfSendFailed (Err faults.Failed) P = P
IfSendFailed (Err faults.Memory) P = Unit {0}

-- A transmission: what it wrote, its cause, and what stays.
pub record Sends {T : Type 0} (old new : Shown) (rec : List ℕ) (result : Result T LinkFault) : Type 0 where
  pub wire : old.wire ≤ new.wire
  pub own : old.own ≤ new.own
  pub phase : new.phase ≡ old.phase
  pub wrote : SendsIn old.sending old new rec result
  pub because : IfSendFailed result (FailedSend old.sending old new)

-- a connection makes a new beginning, if it came about or was tried
abbrev pub BeginsAnew : {T : Type 0} → Shown → Shown → Result T LinkFault → Type 0
BeginsAnew old new (Ok x) = (new.sending ≡ sendings.Fine) × (new.phase ≡ phases.Header)
BeginsAnew old new (Err faults.Failed) = (new.sending ≡ sendings.Fine) × (new.phase ≡ phases.Header)
BeginsAnew old new (Err faults.Memory) = (new.sending ≡ old.sending) × (new.phase ≡ old.phase)

-- A dial: it fails only by the wire's fault.
pub record Dials {T : Type 0} (old new : Shown) (result : Result T LinkFault) : Type 0 where
  pub cause : HasCause old.wire new.wire result
  pub own : new.own ≡ old.own
  pub anew : BeginsAnew old new result

-- A note changes nothing but what is told.
pub record Notes (old new : Shown) : Type 0 where
  pub wire : old.wire ≤ new.wire
  pub own : new.own ≡ old.own
  pub sending : new.sending ≡ old.sending
  pub phase : new.phase ≡ old.phase
