-- What is written of two scripts before their clients are set up.
use Rattle.std.specs.Prelude.{◌≡◌, ℕ, List, [], Option, Result, Ok, Err}
use Rattle.nfs_script.specs.declared.fault.ScriptFault.{ScriptFault}
use Rattle.nfs_script.specs.declared.script.ScriptLine.{ScriptLine}
use Rattle.nfs_script.specs.Script.{script_of}
use Rattle.script_runs.specs.Run.{IsReadAs}
use Rattle.pair_runs.specs.PairRuns.{NoneBegan, RefusesOne}

-- The text isn't the script of the client at this end, and the line that says so was written; or memory ran out.
pub data IsRefused (end : ℕ) (text : List ℕ) (status : ℕ) (said : List ℕ) : Type 0 where
  for_fault : (fault : ScriptFault) → script_of text ≡ Err fault → RefusesOne end fault status said → IsRefused end text status said
  for_memory : status ≡ 7 → said ≡ [] → IsRefused end text status said

-- The text spells the script, and nothing was written; or it is refused.
abbrev pub ReadsOne : ℕ → List ℕ → Result (List ScriptLine) ℕ → List ℕ → Type 0
ReadsOne end text (Ok lines) said = (script_of text ≡ Ok lines) × (said ≡ [])
ReadsOne end text (Err status) said = IsRefused end text status said

-- the first text is refused; or it is the script of client a, and the second is refused
pub data IsOneRefused (first second : List ℕ) (status : ℕ) (said : List ℕ) : Type 0 where
  for_first : IsRefused 0 first status said → IsOneRefused first second status said
  for_second : (lines : List ScriptLine) → script_of first ≡ Ok lines → IsRefused 1 second status said → IsOneRefused first second status said

-- both texts spell scripts, and nothing was written; or one is refused
abbrev pub ReadsTexts : List ℕ → List ℕ → Result (List ScriptLine × List ScriptLine) ℕ → List ℕ → Type 0
ReadsTexts first second (Ok both) said = (script_of first ≡ Ok both.0) × (script_of second ≡ Ok both.1) × (said ≡ [])
ReadsTexts first second (Err status) said = IsOneRefused first second status said

-- the same of what two sources had left
abbrev pub ReadsBoth : Option (List ℕ) → Option (List ℕ) → Result (List ScriptLine × List ScriptLine) ℕ → List ℕ → Type 0
ReadsBoth left_a left_b (Ok both) said = IsReadAs left_a (Ok both.0) × IsReadAs left_b (Ok both.1) × (said ≡ [])
ReadsBoth left_a left_b (Err status) said = NoneBegan left_a left_b status said
