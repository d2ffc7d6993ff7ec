-- What a run of batches comes to.
use Rattle.std.specs.Prelude.{◌≡◌, ◌+◌, ℕ, suc, Bool, List, [], ◌∷◌, ◌++◌, length, Option, Ok, Err}
use Rattle.world_model.specs.declared.answer.Fault.{Fault}
use Rattle.world_model.specs.declared.entry.Entry.{Entry}
use Rattle.world_model.specs.declared.tally.Tally.{Tally}
use Rattle.world_model.specs.Follows.{Follows, IsFront}
use Rattle.world_model.specs.Lost.{IsLost}
use Rattle.nfs_script.specs.declared.fault.ScriptFault.{ScriptFault}
use Rattle.nfs_script.specs.declared.script.ScriptLine.{ScriptLine}
use Rattle.script_batches.specs.Batches.{Read}
use Rattle.session_words.specs.declared.settings.Settings.{Settings}
use Rattle.session_words.specs.Words.{IsCommand}
use Rattle.session_setup.specs.declared.opening.SetUp.{SetUp}
use Rattle.session_setup.specs.declared.opening.SetUpFault.TheVariants.{Refused, Lost, Memory}
use Rattle.session_setup.specs.Outcomes.{SetsUp}
use Rattle.lane_session.specs.Endings.{NotesAll, entries_of}
use Rattle.lane_session.specs.Going.{AllTimed}
use Rattle.lane_session.specs.Labels.{IsCutIn}
use Rattle.lane_session.specs.Losing.{LosesOnly}
use Rattle.lane_session.specs.Statuses.{HasStatus}
use Rattle.lane_session.specs.TogetherFrom.{TogetherFrom}
use Rattle.script_runs.specs.Ends.{TellsMount}
use Rattle.script_runs.specs.Run.{IsCutOff, IsFirst, KeepsForOpens}
use Rattle.batch_runs.specs.Parts.{ArePartsFrom, AreRead, IsRefusalOf, Part, asked_in, entries_in, lines_in, ran_text, refused_text, text_in, worst_in}

-- What isn't answered at the end of a run: the batches that are left; the lines of the first of them if they were begun; and what the history got by it, and
-- what was written of it.
pub record Rest : Type 0 where
  pub more : List Read
  pub lines : List ScriptLine
  pub entries : List Entry
  pub text : List ℕ

-- nothing was begun or written of it
pub record IsNone (rest : Rest) : Type 0 where
  pub lines : rest.lines ≡ []
  pub entries : rest.entries ≡ []
  pub text : rest.text ≡ []

-- The input had no further batch, and the status is the worst one. Or the source failed. Or the run was cut off: between two batches; within the text that
-- refuses one; while the lines of one were run, and then within the line of the last entry; or once each had its answer, within what comes behind them.
pub data EndsBatches (count : Bool) (number : ℕ) (h : List Entry) (status worst : ℕ) (rest : Rest) : Type 0 where
  at_end : status ≡ worst → rest.more ≡ [] → IsNone rest → EndsBatches count number h status worst rest
  no_source : status ≡ 4 → IsNone rest → EndsBatches count number h status worst rest
  cut_between : IsCutOff status → IsNone rest → EndsBatches count number h status worst rest
  cut_refused : IsCutOff status → (batch : Read) (left : List Read) (fault : ScriptFault) → rest.more ≡ batch ∷ left → IsRefusalOf batch fault
      → rest.lines ≡ [] → rest.entries ≡ [] → IsFront rest.text (refused_text number fault) → EndsBatches count number h status worst rest
  cut_in : IsCutOff status → (batch : Read) (left : List Read) → rest.more ≡ batch ∷ left → asked_in batch ≡ Ok rest.lines → IsCutIn [] rest.entries rest.text
      → EndsBatches count number h status worst rest
  cut_done : IsCutOff status → (batch : Read) (left : List Read) (own : ℕ) → rest.more ≡ batch ∷ left → asked_in batch ≡ Ok rest.lines
      → HasStatus rest.entries own → IsFront rest.text (ran_text count number h rest.entries own) → EndsBatches count number h status worst rest

-- The session of all batches, before which the set-up left the history: first those before the set-up, none of which has a line, then those that were run.
pub record SessionOf (count : Bool) (left : Option (List ℕ)) (given : List ℕ) (before h : List Entry) (status : ℕ) (text : List ℕ) : Type 0 where
  pub early : List Part
  pub parts : List Part
  pub rest : Rest
  pub idle : lines_in early ≡ []
  pub early_are : ArePartsFrom count 0 [] [] early
  pub are : ArePartsFrom count (length early) before [] parts
  pub read : AreRead left (early ++ parts) rest.more
  pub ends : EndsBatches count (suc (length (early ++ parts))) (before ++ entries_in parts) status (worst_in (early ++ parts)) rest
  pub history : h ≡ before ++ (entries_in parts ++ rest.entries)
  pub written : text ≡ text_in (early ++ parts) ++ rest.text
  pub follows : Follows (entries_of (lines_in parts ++ rest.lines)) h
  pub together : TogetherFrom (length (before ++ entries_in parts)) (entries_of rest.lines) h
  pub clock : NotesAll status given before h
  pub timed : AllTimed h

-- the lines that were run, or begun
abbrev pub lines_of : {count : Bool} {left : Option (List ℕ)} {given : List ℕ} {before h : List Entry} {status : ℕ} {text : List ℕ}
    → SessionOf count left given before h status text → List ScriptLine
lines_of session = lines_in session.parts ++ session.rest.lines

-- The batches of an input. If none has a line no call is made. Else the session was set up, and this is so of the whole history; or it was lost in its set-up,
-- and each line is answered so; or the mount was refused, or memory ran out, once the first batch with a line was read.
pub data BatchesBy (R : Settings → List ScriptLine → ℕ → SetUp → List Entry → List Entry → Type 0) (s : Settings) (left : Option (List ℕ)) (given : List ℕ)
    (h : List Entry) (status : ℕ) (text : List ℕ) : Type 0 where
  no_lines : h ≡ [] → (session : SessionOf s.count left given [] h status text) → lines_of session ≡ [] → BatchesBy R s left given h status text
  ready : (ms first : ℕ) (later : List ℕ) → given ≡ ms ∷ later → IsFirst given s.xid first → (v : SetUp) (before : List Entry) → SetsUp s first (Ok v) before
      → (session : SessionOf s.count left later before h status text) → R s (lines_of session) first v before h → BatchesBy R s left given h status text
  lost : (ms first : ℕ) (later : List ℕ) → given ≡ ms ∷ later → IsFirst given s.xid first → (tally : Tally) (before : List Entry)
      → SetsUp s first (Err (Lost tally)) before → (session : SessionOf s.count left later before h status text) → LosesOnly (lines_of session) before h
      → IsLost h (length h) → BatchesBy R s left given h status text
  unmounted : (ms first : ℕ) → given ≡ ms ∷ [] → IsFirst given s.xid first → (early : List Part) (more : List Read) → lines_in early ≡ []
      → ArePartsFrom s.count 0 [] [] early → AreRead left early more → (fault : Fault) → SetsUp s first (Err (Refused fault)) h → (last : List ℕ)
      → TellsMount fault status last → text ≡ text_in early ++ last → BatchesBy R s left given h status text
  unready : (ms first : ℕ) → given ≡ ms ∷ [] → IsFirst given s.xid first → (early : List Part) (more : List Read) → lines_in early ≡ []
      → ArePartsFrom s.count 0 [] [] early → AreRead left early more → SetsUp s first (Err Memory) h → status ≡ 7 → text ≡ text_in early
      → BatchesBy R s left given h status text

-- What a run of batches comes to: the words were refused or memory ran out before, and the history is empty; or there was a session of the batches, by the
-- settings that the words give. The clock gave these readings.
pub data RunOf (Is : Settings → Option (List ℕ) → List ℕ → List Entry → ℕ → List ℕ → Type 0) (given : List ℕ) (words : List (List ℕ)) (left : Option (List ℕ))
    (h : List Entry) (status : ℕ) (text : List ℕ) : Type 0 where
  no_words : h ≡ [] → status ≡ 2 → text ≡ [] → RunOf Is given words left h status text
  cut_before : h ≡ [] → IsCutOff status → text ≡ [] → RunOf Is given words left h status text
  batches : (s : Settings) → IsCommand words s → KeepsForOpens s → Is s left given h status text → RunOf Is given words left h status text
