-- What the parts of a session's work do.
use Rattle.std.specs.Prelude.{◌≡◌, ◌≢◌, ◌≤◌, ◌<◌, ◌⊎◌, ◌-◌, ◌+◌, ℕ, suc, List, [], ◌∷◌, ◌++◌, length, position, replicate, slice_get, option_map, Bool, true, false, not, ◌&&◌, Option, Some, None, Result, Ok, Err}
use Rattle.rpc_retry.specs.Waiting.{first_due}
use Rattle.rpc_retry.specs.declared.waiting.Waiting.{Waiting}
use Rattle.client_core.specs.declared.lane.Purpose.{Purpose}
use Rattle.xdr_codec.specs.declared.blob.Memory.{Memory}
use Rattle.world_model.specs.declared.entry.Entry.{Entry}
use Rattle.world_model.specs.declared.entry.Entry.TheVariants.{Began, Answered, Clock}
use Rattle.world_model.specs.declared.op.Op.{Op}
use Rattle.nfs_script.specs.declared.script.ScriptLine.{ScriptLine}
use Rattle.session_words.specs.declared.settings.Settings.{Settings}
use Rattle.op_machines.specs.Begun.{machine_of}
use Rattle.op_machines.specs.declared.begun.Mounted.{Mounted}
use Rattle.client_core.specs.declared.setup.Setup.{Setup}
use Rattle.client_core.specs.Fresh.{IsFresh}
use Rattle.client_core.specs.Lanes.{is_over}
use Rattle.client_core.specs.Numbers.{numbers_of}
use Rattle.client_core.specs.Steps.{Begins, FailsBy, Hears, WereSent, lost}
use Rattle.client_core.specs.View.{View}
use Rattle.lane_session.specs.declared.running.Session.{Session}
use Rattle.lane_session.specs.declared.running.Sending.{Sending}
use Rattle.lane_session.specs.declared.running.Sending.TheVariants as sendings
use Rattle.lane_session.specs.declared.lanes.Place.{Place}
use Rattle.lane_session.specs.Places.{lines_left}
use Rattle.lane_session.specs.Resending.{DueAgain}
use Rattle.lane_session.specs.Holding.{IsLive, IsAlive, IsQuiet, AreQuiet, Lessens, SameTries, calls_left, tries_left}

-- ---- a session that begins

abbrev pub mounted_by : Settings → Setup → Mounted
mounted_by s setup = record { root = setup.root; rsize = setup.rsize; noac = s.noac; nocto = not s.noac && s.nocto }

abbrev pub first_place : Place
first_place = record { next = 0; line = None }

pub record IsFreshFor (settings : Settings) (setup : Setup) (s : Session) : Type 0 where
  pub mounted : s.mounted ≡ mounted_by settings setup
  pub core : IsFresh setup s.core
  pub lanes : s.lanes ≡ replicate 16 first_place
  pub status : s.status ≡ 0
  pub attempts : s.attempts ≡ 4
  pub dropped : s.dropped ≡ 0
  pub earlier : s.earlier ≡ 0

-- ---- lanes

-- no lane went on
pub record RestsAll (script : List ScriptLine) (old new : Session) : Type 0 where
  pub core : new.core ≡ old.core
  pub tries : SameTries old new
  pub lines : lines_left (length script) new.lanes ≤ lines_left (length script) old.lanes
  pub quiet : AreQuiet script new

abbrev pub StepsSo : List ScriptLine → Session → Bool → Session → Type 0
StepsSo script old true new = Lessens script old new
StepsSo script old false new = RestsAll script old new

-- the lane didn't go on; if it has no line under way its next one was looked for
pub record RestsOne (script : List ScriptLine) (lane : ℕ) (old new : Session) : Type 0 where
  pub core : new.core ≡ old.core
  pub tries : SameTries old new
  pub lines : lines_left (length script) new.lanes ≤ lines_left (length script) old.lanes
  pub quiet : IsQuiet script new (lane - 1)
  pub others : (n : ℕ) → (n ≡ lane - 1 → ⊥) → slice_get new.lanes n ≡ slice_get old.lanes n

abbrev pub StepsLane : List ScriptLine → ℕ → Session → Bool → Session → Type 0
StepsLane script lane old true new = Lessens script old new
StepsLane script lane old false new = RestsOne script lane old new

-- the line of the lane that is under way
abbrev pub LineIs : ℕ → Option ℕ → Session → Type 0
LineIs lane line s = option_map (λ p. p.line) (slice_get s.lanes (lane - 1)) ≡ Some line

-- An operation began in the core at the reading; or the clock was read once at most.
abbrev pub Starts : ℕ → Op → Session → Session → Result (Unit {0}) Memory → List ℕ → Type 0
Starts lane op old new (Ok u) given = (ms : ℕ) × (given ≡ ms ∷ []) × Begins old.core lane (machine_of old.mounted lane op) ms new.core × (new ≡ record old { core = new.core })
Starts lane op old new (Err e) given = length given ≤ 1

abbrev pub NotesStart : ℕ → ℕ → Op → Result (Unit {0}) Memory → List ℕ → List Entry → List Entry → Type 0
NotesStart lane line op (Ok u) given h k = (ms : ℕ) × (given ≡ ms ∷ []) × (k ≡ h ++ Clock ms ∷ Began lane line op ∷ [])
NotesStart lane line op (Err e) given h k = (k ≡ h) ⊎ ((ms : ℕ) × (given ≡ ms ∷ []) × (k ≡ h ++ Clock ms ∷ []))

-- ---- calls

-- an entry that is no mark
abbrev pub marks : List Entry → List Entry
marks [] = []
marks (Began lane line op ∷ es) = Began lane line op ∷ marks es
marks (Answered lane line answer ∷ es) = Answered lane line answer ∷ marks es
marks (Clock ms ∷ es) = Clock ms ∷ marks es
marks (e ∷ es) = marks es

-- a history goes on, and nothing is noted
pub record Quietly (h k : List Entry) : Type 0 where
  pub more : List Entry
  pub is : k ≡ h ++ more
  pub unmarked : marks more ≡ []

-- what the exchange with the server leaves as it is
pub record SameLines (old new : Session) : Type 0 where
  pub mounted : new.mounted ≡ old.mounted
  pub earlier : new.earlier ≡ old.earlier
  pub lanes : new.lanes ≡ old.lanes
  pub status : new.status ≡ old.status
  pub numbers : numbers_of new.core.lanes ≡ numbers_of old.core.lanes
  pub begun : new.core.begun ≡ old.core.begun

-- the lines stay, and less is left to be tried
pub record Exchanges (old new : Session) : Type 0 where
  pub lines : SameLines old new
  pub live : IsLive new
  pub less : tries_left new < tries_left old
  pub alive : IsAlive old → IsAlive new

-- the lines and the lanes of the core stay, and so does what is left to be tried
pub record Sends (old new : Session) : Type 0 where
  pub lines : SameLines old new
  pub same : new.core.lanes ≡ old.core.lanes
  pub tries : SameTries old new
  pub calls : calls_left new.core ≡ calls_left old.core
  pub lost_is : new.core.lost ≡ old.core.lost
  pub live : IsLive new
  pub alive : IsAlive old → IsAlive new
  pub waits : old.core.calls.calls ≢ [] → new.core.calls.calls ≢ []

-- each lane has told its answer
abbrev pub NoneOver : View → Type 0
NoneOver v = (n : ℕ) → n < 16 → position (is_over (suc n)) v.lanes ≡ None

-- how many calls are due
abbrev pub one_where : Bool → ℕ
one_where true = 1
one_where false = 0

abbrev pub dues : List (ℕ × Waiting Purpose) → ℕ
dues [] = 0
dues (e ∷ es) = one_where e.1.due + dues es

-- the link failed; each call is due again; and if attempts are left each lane has told its answer still
pub record Breaks (old new : Session) : Type 0 where
  pub exchanges : Exchanges old new
  pub told : 1 ≤ new.attempts → NoneOver new.core
  pub due : DueAgain new.core

abbrev pub SendsAll : Session → Bool → Session → Type 0
SendsAll old true new = Sends old new × WereSent new.core.calls.calls × (first_due new.core.calls.calls ≡ None)
SendsAll old false new = Breaks old new

abbrev pub SendsOne : Session → Sending → Session → Type 0
SendsOne old sendings.Nothing new = Sends old new × WereSent new.core.calls.calls × (first_due new.core.calls.calls ≡ None)
SendsOne old sendings.Went new = Sends old new × (dues new.core.calls.calls < dues old.core.calls.calls)
SendsOne old sendings.Failed new = Breaks old new

-- the attempts that run have ended; if a call is given up none is left
abbrev pub attempts_after : Bool → ℕ → ℕ
attempts_after true attempts = attempts - 1
attempts_after false attempts = 0

pub record Fails (old new : Session) : Type 0 where
  pub result : Bool
  pub core : FailsBy old.core result new.core
  pub is : new ≡ record old { core = new.core; attempts = attempts_after result old.attempts }

-- the session is given up
abbrev pub given_up : Session → Session
given_up s = record s { core = lost s.core; attempts = 0 }

-- A record is taken; or it is dropped, and the last that may be dropped loses the session.
abbrev pub TakesBy : Session → Bool → View → Session → Type 0
TakesBy old true core new = new ≡ record old { core = core; attempts = 4; dropped = 0 }
TakesBy old false core new = ((old.dropped + 1 ≡ 65536 → ⊥) × (new ≡ record old { core = core; dropped = old.dropped + 1 }))
    ⊎ ((old.dropped + 1 ≡ 65536) × (new ≡ given_up (record old { core = core; dropped = old.dropped + 1 })))

pub record Takes (old : Session) (rec : List ℕ) (new : Session) : Type 0 where
  pub result : Bool
  pub core : View
  pub hears : Hears old.core rec result core
  pub is : TakesBy old result core new

-- the session goes on as it is, or it is given up
abbrev pub Redialed : Session → Session → Type 0
Redialed old new = (new ≡ old) ⊎ (new ≡ given_up old)
