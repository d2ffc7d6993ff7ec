-- The batches of a session, as they were read and answered.
use Rattle.std.specs.Prelude.{◌≡◌, ◌⊎◌, ℕ, suc, max, List, [], ◌∷◌, ◌++◌, length, map, Bool, Option, Some, None, Result, Ok, Err, if◌then◌else◌}
use Rattle.world_model.specs.declared.entry.Entry.{Entry}
use Rattle.world_model.specs.Counts.{tally_of}
use Rattle.world_model.specs.Follows.{Finishes}
use Rattle.world_model.specs.Transcript.{transcript}
use Rattle.nfs_script.specs.declared.fault.ScriptFault.{ScriptFault}
use Rattle.nfs_script.specs.declared.script.ScriptLine.{ScriptLine}
use Rattle.nfs_script.specs.DoneText.{done_text}
use Rattle.nfs_script.specs.RefusalText.{refusal_text}
use Rattle.nfs_script.specs.Script.{script_from}
use Rattle.script_batches.specs.Batches.{Read, batches_of}
use Rattle.lane_session.specs.Endings.{counts_text, entries_of}
use Rattle.lane_session.specs.Statuses.{HasStatus}
use Rattle.lane_session.specs.TogetherFrom.{TogetherFrom}

-- What a batch asks for, or its fault. One whose input ended before its `go` is refused for its last line.
abbrev pub asked_in : Read → Result (List ScriptLine) ScriptFault
asked_in batch = if batch.ended then script_from batch.before batch.text else Err (record { line = batch.last; kind = 10 })

-- A batch that was answered: as it was read, its lines, what the history got by it, its status, and what was written.
pub record Part : Type 0 where
  pub read : Read
  pub lines : List ScriptLine
  pub entries : List Entry
  pub status : ℕ
  pub text : List ℕ

abbrev pub lines_in : List Part → List ScriptLine
lines_in [] = []
lines_in (p ∷ ps) = p.lines ++ lines_in ps

abbrev pub entries_in : List Part → List Entry
entries_in [] = []
entries_in (p ∷ ps) = p.entries ++ entries_in ps

abbrev pub text_in : List Part → List ℕ
text_in [] = []
text_in (p ∷ ps) = p.text ++ text_in ps

-- a batch was answered with one of these statuses
abbrev pub IsWorst : ℕ → Type 0
IsWorst status = (status ≡ 0) ⊎ (status ≡ 1) ⊎ (status ≡ 3) ⊎ (status ≡ 6)

-- the worst status, in the order 6, 3, 1, 0
abbrev pub worst_in : List Part → ℕ
worst_in [] = 0
worst_in (p ∷ ps) = max p.status (worst_in ps)

-- What is written of a batch whose lines were run: the answers in their order, the counts of the history so far if they are wanted, and that it is done.
abbrev pub ran_text : Bool → ℕ → List Entry → List Entry → ℕ → List ℕ
ran_text count number h entries status = transcript entries ++ (counts_text count (tally_of (h ++ entries)) ++ done_text number status)

abbrev pub refused_text : ℕ → ScriptFault → List ℕ
refused_text number fault = refusal_text fault ++ done_text number 3

-- a batch is refused for the fault that it has
abbrev pub IsRefusalOf : Read → ScriptFault → Type 0
IsRefusalOf batch fault = asked_in batch ≡ Err fault

-- the batch of that number was refused, and nothing of it was begun
pub record IsRefused (number : ℕ) (p : Part) : Type 0 where
  pub fault : ScriptFault
  pub why : IsRefusalOf p.read fault
  pub lines : p.lines ≡ []
  pub entries : p.entries ≡ []
  pub status : p.status ≡ 3
  pub text : p.text ≡ refused_text number fault

-- The batch of that number was refused. Or after the history and the lines that were run before it, each of its lines was begun and answered; its lanes ran
-- together; its status is that of its own answers.
pub data PartIs (count : Bool) (number : ℕ) (h : List Entry) (done : List ScriptLine) (p : Part) : Type 0 where
  refused_part : IsRefused number p → PartIs count number h done p
  ran_part : asked_in p.read ≡ Ok p.lines → Finishes (entries_of (done ++ p.lines)) (h ++ p.entries)
      → TogetherFrom (length h) (entries_of p.lines) (h ++ p.entries) → HasStatus p.entries p.status → p.text ≡ ran_text count number h p.entries p.status
      → PartIs count number h done p

-- batches one after another, after so many, after the history, and after the lines that were run before them
abbrev pub ArePartsFrom : Bool → ℕ → List Entry → List ScriptLine → List Part → Type 0
ArePartsFrom count before h done [] = Unit {0}
ArePartsFrom count before h done (p ∷ ps) = PartIs count (suc before) h done p × ArePartsFrom count (suc before) (h ++ p.entries) (done ++ p.lines) ps

-- These batches were read, and these are left, of those that the input has, if the source tells it.
abbrev pub AreRead : Option (List ℕ) → List Part → List Read → Type 0
AreRead None parts more = Unit {0}
AreRead (Some left) parts more = map (λ (p : Part). p.read) parts ++ more ≡ batches_of 0 left

-- each of these batches was refused
abbrev pub RefusedFrom : ℕ → List Part → Type 0
RefusedFrom before [] = Unit {0}
RefusedFrom before (p ∷ ps) = IsRefused (suc before) p × RefusedFrom (suc before) ps

-- each of these batches was answered before a line began: none has a line, and no call had been made
pub record AreIdleFrom (count : Bool) (before : ℕ) (parts : List Part) : Type 0 where
  pub are : ArePartsFrom count before [] [] parts
  pub lines : lines_in parts ≡ []
  pub entries : entries_in parts ≡ []
