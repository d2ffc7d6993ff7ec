-- What holds of a session at any time, whatever its link tells.
use Rattle.std.specs.Prelude.{◌≡◌, ◌≤◌, ◌<◌, ◌+◌, ◌-◌, ◌*◌, ◌^◌, ℕ, suc, List, [], ◌∷◌, length, position, slice_get, Bool, true, false, Some, None}
use Rattle.nfs_script.specs.declared.script.ScriptLine.{ScriptLine}
use Rattle.rpc_retry.specs.Sound.{IsSound}
use Rattle.rpc_retry.specs.declared.waiting.Waiting.{Waiting}
use Rattle.world_model.specs.declared.entry.Entry.{Entry}
use Rattle.op_machines.specs.Begun.{machine_of}
use Rattle.client_core.specs.declared.lane.Purpose.{Purpose}
use Rattle.client_core.specs.declared.setup.Setup.{Setup}
use Rattle.client_core.specs.Lanes.{is_over}
use Rattle.client_core.specs.Numbers.{IsOther, numbers_of}
use Rattle.client_core.specs.View.{View}
use Rattle.core_facts.specs.Reaches.{IsOpenLine, Reaches}
use Rattle.core_facts.specs.Resting.{NoneBusy}
use Rattle.lane_session.specs.declared.lanes.Place.{Place}
use Rattle.lane_session.specs.declared.running.Session.{Session}
use Rattle.lane_session.specs.Places.{lines_left, passed}
use Rattle.lane_session.specs.Statuses.{IsSessionStatus}

-- what may still come of the calls: a call that is made takes 2 and adds 1, and a reply takes 1
abbrev pub calls_left : View → ℕ
calls_left v = 2 * (v.calls.limit - v.calls.made) + length v.calls.calls

-- The calls that wait are sound, and a session that has attempts left isn't lost and has records left that may be dropped.
pub record IsLive (s : Session) : Type 0 where
  pub calls : IsSound s.core.calls
  pub some : 1 ≤ s.attempts → s.core.lost ≡ false
  pub few : s.attempts ≤ 4
  pub dropped : s.dropped ≤ 65536
  pub undropped : 1 ≤ s.attempts → s.dropped < 65536

-- A lane without a line is idle in the core, too; no more lines were begun than were passed, in earlier scripts and in this one; and there can't be 2 ^ 32.
pub record IsSeated (script : List ScriptLine) (s : Session) : Type 0 where
  pub sixteen : length s.lanes ≡ 16
  pub idle : (n : ℕ) (p : Place) → slice_get s.lanes n ≡ Some p → p.line ≡ None → IsOther (suc n) (numbers_of s.core.lanes)
  pub within : (n : ℕ) (p : Place) → slice_get s.lanes n ≡ Some p → p.next ≤ length script
  pub begun : s.core.begun ≤ s.earlier + passed s.lanes
  pub room : s.earlier + 16 * length script < 2 ^ 32

-- The core goes with some history, whatever the link tells. In it each line under way is the last one that its lane began.
pub record HasStory (s : Session) : Type 0 where
  pub setup : Setup
  pub h : List Entry
  pub reaches : Reaches (machine_of s.mounted) setup h s.core
  pub lines : (n line : ℕ) (p : Place) → slice_get s.lanes n ≡ Some p → p.line ≡ Some line → IsOpenLine h (suc n) line

-- one attempt more is to come of a call that is due
abbrev pub to_come : Bool → ℕ
to_come true = 1
to_come false = 0

-- the oldest call that waits was sent at each attempt since the last reply
abbrev pub TriedSo : ℕ → List (ℕ × Waiting Purpose) → Type 0
TriedSo attempts [] = attempts ≡ 4
TriedSo attempts (e ∷ es) = 5 ≤ e.1.attempts + attempts + to_come e.1.due

-- a call waits, and the oldest one isn't due
abbrev pub HeadSent : List (ℕ × Waiting Purpose) → Type 0
HeadSent [] = ⊥
HeadSent (e ∷ es) = e.1.due ≡ false

-- No attempt is left only in a lost session, which has an answer for each operation; and each line under way has its lane in the core.
pub record IsAlive (s : Session) : Type 0 where
  pub story : s.core.lost ≡ false → HasStory s
  pub tried : s.core.lost ≡ false → TriedSo s.attempts s.core.calls.calls
  pub none : s.attempts ≡ 0 → s.core.lost ≡ true
  pub over : s.core.lost ≡ true → NoneBusy s.core
  pub busy : (n line : ℕ) (p : Place) → slice_get s.lanes n ≡ Some p → p.line ≡ Some line → IsOther (suc n) (numbers_of s.core.lanes) → ⊥

pub record IsHeld (script : List ScriptLine) (s : Session) : Type 0 where
  pub live : IsLive s
  pub seated : IsSeated script s
  pub status : IsSessionStatus s.status
  pub alive : IsAlive s

-- what working on lines leaves as it is
pub record SameTries (old new : Session) : Type 0 where
  pub attempts : new.attempts ≡ old.attempts
  pub dropped : new.dropped ≡ old.dropped

-- the lane has told its answer, and has no line left if none is under way
pub record IsQuiet (script : List ScriptLine) (s : Session) (n : ℕ) : Type 0 where
  pub told : position (is_over (suc n)) s.core.lanes ≡ None
  pub none : (p : Place) → slice_get s.lanes n ≡ Some p → p.line ≡ None → p.next ≡ length script

-- each lane is
abbrev pub AreQuiet : List ScriptLine → Session → Type 0
AreQuiet script s = (n : ℕ) → n < 16 → IsQuiet script s n

-- ---- how much is left of a session

-- a lane that went on leaves less to be done
pub record Lessens (script : List ScriptLine) (old new : Session) : Type 0 where
  pub tries : SameTries old new
  pub calls : calls_left new.core ≤ calls_left old.core
  pub lines : lines_left (length script) new.lanes < lines_left (length script) old.lanes

-- so much is left of the calls, and between two replies
abbrev pub tries_left : Session → ℕ
tries_left s = 65541 * calls_left s.core + s.attempts + (65536 - s.dropped)

-- ---- another script

-- there can be no 2 ^ 32 operations in the scripts so far and the next one
abbrev pub HasRoom : List ScriptLine → List ScriptLine → Session → Type 0
HasRoom script next s = s.earlier + 16 * length script + 16 * length next < 2 ^ 32
