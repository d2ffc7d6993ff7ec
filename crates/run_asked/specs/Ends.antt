-- Why a session of scripts that are asked for ends with its status.
use Rattle.std.specs.Prelude.{◌≡◌, ◌≤◌, ◌⊎◌, ℕ, List, [], length}
use Rattle.world_model.specs.declared.answer.Answer.TheVariants.{Refused}
use Rattle.world_model.specs.declared.answer.Fault.{Fault}
use Rattle.world_model.specs.declared.answer.Fault.TheVariants as faults
use Rattle.world_model.specs.declared.entry.Entry.{Entry}
use Rattle.world_model.specs.declared.entry.Entry.TheVariants.{Began}
use Rattle.world_model.specs.declared.op.Op.{Op}
use Rattle.world_model.specs.Entries.{At}
use Rattle.world_model.specs.Follows.{Finishes, Follows}
use Rattle.world_model.specs.Heard.{Refused as WasRefused}
use Rattle.world_model.specs.Lost.{Loses}
use Rattle.world_model.specs.Mounts.{Rooted, mount_call}
use Rattle.nfs_script.specs.declared.script.ScriptLine.{ScriptLine}
use Rattle.session_words.specs.declared.settings.Export.TheVariants as exports
use Rattle.session_words.specs.declared.settings.Settings.{Settings}
use Rattle.session_words.specs.Words.{IsCommand}
use Rattle.session_setup.specs.declared.opening.SetUp.{SetUp}
use Rattle.session_setup.specs.Origins.{origin_of}
use Rattle.lane_session.specs.Endings.{entries_of}
use Rattle.lane_session.specs.Statuses.{IsAnswered}
use Rattle.run_asked.specs.Promised.{Promised}

abbrev pub NoneBegan : List Entry → Type 0
NoneBegan h = (i lane line : ℕ) (op : Op) → At h i (Began lane line op) → ⊥

-- The server refused the mount of the path (RFC 1813, section 5.2.1), and nothing began.
pub record IsUnmounted (s : Settings) (h : List Entry) : Type 0 where
  pub path : List ℕ
  pub fault : Fault
  pub mounting : s.export ≡ exports.Path path
  pub refused : WasRefused h 0 (length h) (mount_call path) fault
  pub none : NoneBegan h

-- The lines of its scripts were run. Each was begun and answered, and the status is what was asked for by the answers, 0 or 1. It is 6 if an answer is that
-- the session is lost. Or the session was cut off for want of memory.
pub data RanTo (lines : List ScriptLine) (h : List Entry) (status : ℕ) : Type 0 where
  kept : status ≤ 1 → Finishes (entries_of lines) h → (IsAnswered h (Refused faults.Lost) → ⊥) → RanTo lines h status
  lost : status ≡ 6 → Finishes (entries_of lines) h → IsAnswered h (Refused faults.Lost) → RanTo lines h status
  cut : status ≡ 7 → RanTo lines h status

-- No script was asked for, or memory ran out at the call for the first one. Or the root was found and scripts were run, and what a session promises is so.
-- Or the session was lost, or memory ran out, before a line began; or the mount was refused.
pub data Ends (s : Settings) (h : List Entry) (status : ℕ) : Type 0 where
  unasked : h ≡ [] → (status ≤ 1) ⊎ (status ≡ 7) → Ends s h status
  ran : (lines : List ScriptLine) (first : ℕ) (v : SetUp) (before : List Entry) → Rooted (origin_of s.export) h (length h) v.root → Follows (entries_of lines) h
      → Promised s lines first v before h → RanTo lines h status → Ends s h status
  lost_before : status ≡ 6 → Loses h (length h) → NoneBegan h → Ends s h status
  unmounted : (status ≡ 8) ⊎ (status ≡ 7) → IsUnmounted s h → Ends s h status
  unready : status ≡ 7 → NoneBegan h → Ends s h status

-- The same of a session by words: they are refused, or memory ran out for them, and no call was made; or they give these settings.
pub data EndsBy (words : List (List ℕ)) (h : List Entry) (status : ℕ) : Type 0 where
  no_words : h ≡ [] → (status ≡ 2) ⊎ (status ≡ 7) → EndsBy words h status
  by_words : (s : Settings) → IsCommand words s → Ends s h status → EndsBy words h status
