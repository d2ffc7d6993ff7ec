-- What a run comes to: its words, the script that its source gave, and a session of its lines.
use Rattle.std.specs.Prelude.{◌≡◌, ◌≤◌, ◌⊎◌, ◌^◌, ◌+◌, ◌%◌, ℕ, List, [], ◌∷◌, take, true, false, Option, Some, None, Result, Ok, Err}
use Rattle.world_model.specs.declared.entry.Entry.{Entry}
use Rattle.world_model.specs.Follows.{IsFront}
use Rattle.nfs_script.specs.declared.script.ScriptLine.{ScriptLine}
use Rattle.nfs_script.specs.declared.fault.ScriptFault.{ScriptFault}
use Rattle.nfs_script.specs.Script.{script_of}
use Rattle.nfs_script.specs.RefusalText.{refusal_text}
use Rattle.session_words.specs.declared.settings.Settings.{Settings}
use Rattle.session_words.specs.Words.{IsCommand}
use Rattle.script_runs.specs.Streams.{script_limit, Appends}

-- ---- the first xid

-- a first xid is 1 to 2 ^ 31
abbrev pub IsXidOption : Option ℕ → Type 0
IsXidOption None = Unit {0}
IsXidOption (Some xid) = (1 ≤ xid) × (xid ≤ 2 ^ 31)

-- The first xid is the one that is wanted. Else it is by the first reading of the clock.
abbrev pub IsFirst : List ℕ → Option ℕ → ℕ → Type 0
IsFirst given (Some xid) first = first ≡ xid
IsFirst [] None first = ⊥
IsFirst (ms ∷ given) None first = first ≡ ms % 2 ^ 31 + 1

-- ---- cut off

-- 5, a fault of the sink, or 7, out of memory: these end a session where they come
abbrev pub IsCutOff : ℕ → Type 0
IsCutOff status = (status ≡ 5) ⊎ (status ≡ 7)

-- ---- the script

-- the text spells a script
pub record IsScript (text : List ℕ) : Type 0 where
  pub lines : List ScriptLine
  pub parsed : script_of text ≡ Ok lines

-- the script's text is read so; if the source doesn't tell its bytes, some text is
abbrev pub IsReadAs : Option (List ℕ) → Result (List ScriptLine) ScriptFault → Type 0
IsReadAs None read = (text : List ℕ) × (script_of text ≡ read)
IsReadAs (Some left) read = script_of (take script_limit left) ≡ read

-- the script is refused so
abbrev pub IsFaultOf : Option (List ℕ) → ScriptFault → Type 0
IsFaultOf left fault = IsReadAs left (Err fault)

-- a script was refused with this fault: all of the line was written, or it was cut off within it
pub data RefusesWith (fault : ScriptFault) (status : ℕ) (text : List ℕ) : Type 0 where
  whole : status ≡ 3 → text ≡ refusal_text fault → RefusesWith fault status text
  cut : IsCutOff status → IsFront text (refusal_text fault) → RefusesWith fault status text

-- ---- how a run ends

-- Nothing was begun: the words were refused, the source failed, the session was cut off before, or the script was
-- refused.
pub data Unbegun (left : Option (List ℕ)) (status : ℕ) (text : List ℕ) : Type 0 where
  no_words : status ≡ 2 → text ≡ [] → Unbegun left status text
  no_source : status ≡ 4 → text ≡ [] → Unbegun left status text
  cut_before : IsCutOff status → text ≡ [] → Unbegun left status text
  no_script : (fault : ScriptFault) → IsFaultOf left fault → RefusesWith fault status text → Unbegun left status text

-- Opens go by kept attributes only if attributes are kept (nfs(5), nocto and noac). Words never give settings for which this isn't so.
abbrev pub KeepsForOpens : Settings → Type 0
KeepsForOpens s = s.nocto ≡ true → s.noac ≡ false

-- What the history is at the end, and what was written: nothing was begun, and the history is empty; or there was a session of the lines that the script
-- has, by the settings that the words give, and this is so of it. The clock gave these readings.
pub data RunOf (Is : Settings → List ScriptLine → List ℕ → List Entry → ℕ → List ℕ → Type 0) (given : List ℕ) (words : List (List ℕ)) (left : Option (List ℕ))
    (h : List Entry) (status : ℕ) (text : List ℕ) : Type 0 where
  unbegun : h ≡ [] → Unbegun left status text → RunOf Is given words left h status text
  session : (s : Settings) (lines : List ScriptLine) → IsCommand words s → KeepsForOpens s → IsReadAs left (Ok lines) → Is s lines given h status text
      → RunOf Is given words left h status text

-- The same by these settings, whatever words gave them, of a run that began with the history before.
pub data RunFrom (Is : Settings → List ScriptLine → List ℕ → List Entry → ℕ → List ℕ → Type 0) (given : List ℕ) (s : Settings) (left : Option (List ℕ))
    (before h : List Entry) (status : ℕ) (text : List ℕ) : Type 0 where
  unbegun_with : h ≡ before → Unbegun left status text → RunFrom Is given s left before h status text
  session_with : (lines : List ScriptLine) → IsReadAs left (Ok lines) → Is s lines given h status text → RunFrom Is given s left before h status text

-- of one that began with an empty history
abbrev pub RunWith : (Settings → List ScriptLine → List ℕ → List Entry → ℕ → List ℕ → Type 0) → List ℕ → Settings → Option (List ℕ) → List Entry → ℕ → List ℕ → Type 0
RunWith Is given s left h status text = RunFrom Is given s left [] h status text

-- no operation was answered: the words or the script were refused, the source failed, or the session was cut off
abbrev pub Refuses : ℕ → Type 0
Refuses status = (status ≡ 2) ⊎ (status ≡ 3) ⊎ (status ≡ 4) ⊎ IsCutOff status

-- why a script is refused, and the line that says so
abbrev pub RefusalIs : Option (List ℕ) → List ℕ → Type 0
RefusalIs left text = (fault : ScriptFault) × IsFaultOf left fault × (text ≡ refusal_text fault)

-- a text was added, if the sink tells what was written, and it is so
pub record Says (old new : Option (List ℕ)) (P : List ℕ → Type 0) : Type 0 where
  pub text : List ℕ
  pub added : Appends old new text
  pub is : P text
