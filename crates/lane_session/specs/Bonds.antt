-- How the core goes with the history, so that all that holds of such a core holds of a session.
use Rattle.std.specs.Prelude.{◌≡◌, ◌≤◌, ◌<◌, ◌⊎◌, ℕ, suc, List, [], ◌∷◌, ◌++◌, length, Bool, true, false, slice_get, Option, Some, None, Result, Ok, Err}
use Rattle.page_cache.specs.Pages.{Pages}
use Rattle.rpc_retry.specs.declared.waiting.Waiting.{Waiting}
use Rattle.rpc_retry.specs.Waiting.{waiting_at}
use Rattle.xdr_codec.specs.declared.blob.Memory.{Memory}
use Rattle.world_model.specs.declared.answer.Answer.{Answer}
use Rattle.world_model.specs.declared.answer.Answer.TheVariants.{Refused}
use Rattle.world_model.specs.declared.answer.Fault.TheVariants as faults
use Rattle.world_model.specs.declared.entry.Entry.{Entry}
use Rattle.world_model.specs.declared.entry.Entry.TheVariants.{Began, Answered, Dialed, Sent, Delivered, Failed, Clock}
use Rattle.world_model.specs.declared.op.Op.{Op}
use Rattle.world_model.specs.Counts.{tally_of}
use Rattle.world_model.specs.Entries.{At}
use Rattle.world_model.specs.LanesTogether.{HasBegun}
use Rattle.world_model.specs.Lost.{Loses, IsLost}
use Rattle.world_model.specs.Rows.{DropRun}
use Rattle.world_model.specs.Waiting.{Waits}
use Rattle.link_dials.specs.Sendings.{LatestIs, Resends}
use Rattle.nfs_script.specs.declared.script.ScriptLine.{ScriptLine}
use Rattle.session_words.specs.declared.settings.Settings.{Settings}
use Rattle.op_machines.specs.Begun.{machine_of}
use Rattle.op_machines.specs.declared.begun.Mounted.{Mounted}
use Rattle.client_core.specs.declared.lane.Purpose.{Purpose}
use Rattle.client_core.specs.declared.lane.State.TheVariants.{Over}
use Rattle.client_core.specs.declared.setup.Setup.{Setup}
use Rattle.client_core.specs.View.{View}
use Rattle.core_facts.specs.Reaches.{IsSetUp}
use Rattle.core_facts.specs.Notes.{Notes}
use Rattle.lane_session.specs.declared.halt.Halt.{Halt}
use Rattle.lane_session.specs.declared.running.Session.{Session}
use Rattle.lane_session.specs.declared.top.End.{End}
use Rattle.lane_session.specs.Losing.{LosesOnly}
use Rattle.lane_session.specs.Resending.{SendsAgain}
use Rattle.lane_session.specs.Running.{mounted_by}

-- a call waits under the xid
abbrev pub IsAwaited : ℕ → View → Type 0
IsAwaited xid v = (call : Waiting Purpose) × (waiting_at xid v.calls.calls ≡ Some call)

-- Each record was sent in the history from which the session goes on, or once an operation had begun.
abbrev pub SentSince : List Entry → List Entry → Type 0
SentSince from h = (i : ℕ) (bytes : List ℕ) → At h i (Sent bytes) → (i < length from) ⊎ HasBegun h i

-- an operation began at the place n
pub record BeginsAt (h : List Entry) (n : ℕ) : Type 0 where
  pub lane : ℕ
  pub line : ℕ
  pub op : Op
  pub began : At h n (Began lane line op)

-- Right after each reading of the clock an operation began, unless it was read in the history from which the session goes on.
abbrev pub TakesAll : List Entry → List Entry → Type 0
TakesAll from h = (i ms : ℕ) → At h i (Clock ms) → (i < length from) ⊎ BeginsAt h (suc i)

-- the same of each reading before an operation
abbrev pub TakesEarlier : List Entry → List Entry → Type 0
TakesEarlier from h = (i ms x lane line : ℕ) (op : Op) → At h i (Clock ms) → At h x (Began lane line op) → i < x → (i < length from) ⊎ BeginsAt h (suc i)

-- After an answer that the session is lost there is no other answer.
abbrev pub StaysLost : List Entry → Type 0
StaysLost h = (i j lane line other later : ℕ) (answer : Answer) → At h i (Answered lane line (Refused faults.Lost)) → At h j (Answered other later answer)
    → i < j → answer ≡ Refused faults.Lost

-- in a lost session each answer that is ready is that it is lost
abbrev pub OnlyLost : View → Type 0
OnlyLost v = v.lost ≡ true → (at number : ℕ) (answer : Answer) → slice_get v.lanes at ≡ Some (record { number = number; state = Over answer })
    → answer ≡ Refused faults.Lost

-- The core goes with the history, in which each answer is noted first, and sends nothing before an operation begins; each xid that waits is that of one of
-- its calls; so many records were dropped last; and a session that is lost stays so.
pub record Bond (m : Mounted) (setup : Setup) (from h : List Entry) (v : View) (dropped : ℕ) : Type 0 where
  pub notes : Notes (machine_of m) setup h v
  pub since : SentSince from h
  pub known : (xid : ℕ) → Waits h xid (length h) → IsAwaited xid v
  pub run : DropRun h dropped (length h)
  pub only : OnlyLost v
  pub stays : StaysLost h

-- the history from which a session goes on, and whether the calls of its set-up were counted
pub record Start : Type 0 where
  pub from : List Entry
  pub counted : Bool

-- The core of a session does; calls are sent again after a failure; an operation began at each reading of the clock; and its calls are counted, if those
-- of the set-up were.
pub record Bonded (m : Mounted) (setup : Setup) (start : Start) (h : List Entry) (s : Session) : Type 0 where
  pub mounted : s.mounted ≡ m
  pub bond : Bond m setup start.from h s.core s.dropped
  pub again : SendsAgain h s.core
  pub takes : TakesAll start.from h
  pub tallied : start.counted ≡ true → s.counts.tally ≡ tally_of h

-- A core goes with the history, in which each answer is noted first, and sent nothing since the first one before an operation began; at each reading of the
-- clock before an operation one began; a session that is lost stays so; and each call that waits is sent again after a failure.
pub record HasCore (m : Mounted) (setup : Setup) (from h : List Entry) : Type 0 where
  pub core : View
  pub notes : Notes (machine_of m) setup h core
  pub since : SentSince from h
  pub takes : TakesEarlier from h
  pub stays : StaysLost h
  pub resends : Resends h

-- the core goes on with the history
abbrev pub CoreGoes : Session → Session → List Entry → List Entry → Type 0
CoreGoes old new h k = (m : Mounted) (setup : Setup) (start : Start) → Bonded m setup start h old → Bonded m setup start k new

-- it went so far, if a session is cut off
abbrev pub CoreWent : Session → List Entry → List Entry → Type 0
CoreWent old h k = (m : Mounted) (setup : Setup) (start : Start) → Bonded m setup start h old → HasCore m setup start.from k

abbrev pub CoreBy : {T E : Type 0} → Session → Session → Result T E → List Entry → List Entry → Type 0
CoreBy old new (Ok x) h k = CoreGoes old new h k
CoreBy old new (Err e) h k = CoreWent old h k

-- ---- dials

-- the entries but those of dials, of failures and of the server
abbrev pub steps : List Entry → List Entry
steps [] = []
steps (Began lane line op ∷ es) = Began lane line op ∷ steps es
steps (Answered lane line answer ∷ es) = Answered lane line answer ∷ steps es
steps (Sent bytes ∷ es) = Sent bytes ∷ steps es
steps (Delivered bytes ∷ es) = Delivered bytes ∷ steps es
steps (Clock ms ∷ es) = Clock ms ∷ steps es
steps (e ∷ es) = steps es

-- only dials were made, and each failure is that of a dial
pub record Redials (h k : List Entry) : Type 0 where
  pub more : List Entry
  pub is : k ≡ h ++ more
  pub still : steps more ≡ []
  pub each : (j : ℕ) → At k j Failed → length h ≤ j → (port : ℕ) × LatestIs k j (Dialed port)

-- a dial succeeded; or so many in a row failed that the session is lost
abbrev pub RedialsBy : Result Bool Memory → List Entry → List Entry → Type 0
RedialsBy (Ok true) h k = Redials h k
RedialsBy (Ok false) h k = Redials h k × Loses k (length k)
RedialsBy (Err e) h k = Redials h k

-- ---- from the set-up to the end

-- The set-up has made its calls, and none of them waits; or it lost the session.
abbrev pub IsOpened : Option Setup → List Entry → Type 0
IsOpened (Some setup) h = IsSetUp setup h × ((xid : ℕ) → Waits h xid (length h) → ⊥)
IsOpened None h = IsLost h (length h)

-- If the counts are those of the whole history: a set-up that there is has made its calls; one that isn't there made none.
abbrev pub CanCount : Option Setup → List Entry → Type 0
CanCount (Some setup) h = IsOpened (Some setup) h
CanCount None h = Unit {0}

-- From a history to a later one: this is one with which a core goes that was so set up; or that of a session that the set-up lost.
abbrev pub EndsWith : Settings → Option Setup → List Entry → List Entry → Type 0
EndsWith settings (Some setup) h k = HasCore (mounted_by settings setup) setup h k
EndsWith settings None h k = IsLost k (length k)

-- Pages that a session hands back are those of a core that goes with its history. Without a set-up there are none.
abbrev pub PagesOf : Settings → Option Setup → Option Pages → List Entry → Type 0
PagesOf settings (Some setup) (Some pages) k = (v : View) × Notes (machine_of (mounted_by settings setup)) setup k v × (pages ≡ v.shelf.pages)
PagesOf settings (Some setup) None k = Unit {0}
PagesOf settings None pages k = pages ≡ None

-- so it is if each line had its answer
abbrev pub EndsPages : Settings → Option Setup → Result End Halt → List Entry → Type 0
EndsPages settings setup (Ok end) k = PagesOf settings setup end.pages k
EndsPages settings setup (Err halt) k = Unit {0}

-- Without a set-up nothing but the loss is noted.
abbrev pub LosesAll : Option Setup → List ScriptLine → List Entry → List Entry → Type 0
LosesAll (Some setup) script h k = Unit {0}
LosesAll None script h k = LosesOnly script h k

-- The calls were counted as the history shows them, unless the session was cut off.
abbrev pub AreCounted : Result End Halt → List Entry → Type 0
AreCounted (Ok end) k = end.tally ≡ tally_of k
AreCounted (Err halt) k = Unit {0}
