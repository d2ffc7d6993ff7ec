-- What is read of the batches, and how those are answered that aren't run.
use Rattle.std.specs.Prelude.{◌≡◌, ◌≢◌, ◌≤◌, ◌+◌, ℕ, suc, max, Bool, List, [], ◌∷◌, ◌++◌, All, length, map, Option, Some, None, IfOk, Result, Ok, Err}
use Rattle.world_model.specs.declared.tally.Tally.{Tally}
use Rattle.world_model.specs.Follows.{IsFront}
use Rattle.nfs_script.specs.declared.fault.ScriptFault.{ScriptFault}
use Rattle.nfs_script.specs.declared.script.ScriptLine.{ScriptLine}
use Rattle.nfs_script.specs.Asked.{IsAskedLine}
use Rattle.nfs_script.specs.DoneText.{done_text}
use Rattle.script_batches.specs.Batches.{InputView, Read, batches_of}
use Rattle.lane_session.specs.Endings.{counts_text}
use Rattle.batch_runs.specs.declared.answered.Answered.{Answered}
use Rattle.batch_runs.specs.declared.reading.Next.{Next}
use Rattle.batch_runs.specs.declared.reading.Next.TheVariants as nexts
use Rattle.batch_runs.specs.declared.stop.Stop.{Stop}
use Rattle.batch_runs.specs.declared.stop.Stop.TheVariants as stops
use Rattle.batch_runs.specs.Parts.{IsRefusalOf, Part, RefusedFrom, asked_in, refused_text, text_in, worst_in}

-- ---- batches that are read

-- the batches that are left of an input, if the source tells it
abbrev pub left_in : Option (List ℕ) → InputView → Option (List Read)
left_in None view = None
left_in (Some left) view = Some (batches_of view.lines (view.held.bytes ++ left))

-- these were taken from the front of those that were left; a source that tells goes on telling
abbrev pub Takes : Option (List Read) → Option (List Read) → List Read → Type 0
Takes None new batches = Unit {0}
Takes (Some old) None batches = ⊥
Takes (Some old) (Some new) batches = old ≡ batches ++ new

-- there is no further one
abbrev pub IsAtEnd : Option (List Read) → Option (List Read) → Type 0
IsAtEnd None new = Unit {0}
IsAtEnd (Some old) None = ⊥
IsAtEnd (Some old) (Some new) = old ≡ []

-- this is the next one
abbrev pub IsFirst : Option (List Read) → Read → Type 0
IsFirst None batch = Unit {0}
IsFirst (Some left) batch = (more : List Read) × (left ≡ batch ∷ more)

-- what comes next is what the batch asks for, or its fault
abbrev pub NextIs : Read → Next → Type 0
NextIs batch (nexts.Script lines) = asked_in batch ≡ Ok lines
NextIs batch (nexts.Refused fault) = asked_in batch ≡ Err fault
NextIs batch nexts.End = ⊥

-- the next batch was taken, or there is none
abbrev pub TakesNext : Option (List Read) → Option (List Read) → Next → Type 0
TakesNext old new nexts.End = IsAtEnd old new
TakesNext old new next = (batch : Read) × Takes old new (batch ∷ []) × NextIs batch next

-- so it is unless there is no further batch
abbrev pub IfFurther : Type 0 → Next → Type 0
IfFurther P nexts.End = Unit {0}
IfFurther P next = P

-- lines that may be run
pub record MayRun (lines : List ScriptLine) : Type 0 where
  pub asked : All IsAskedLine lines
  pub few : length lines ≤ 16384

abbrev pub IsAskedNext : Next → Type 0
IsAskedNext (nexts.Script lines) = MayRun lines
IsAskedNext (nexts.Refused fault) = Unit {0}
IsAskedNext nexts.End = Unit {0}

abbrev pub MayRunSome : Option (List ScriptLine) → Type 0
MayRunSome None = Unit {0}
MayRunSome (Some lines) = MayRun lines

abbrev pub HasLines : Option (List ScriptLine) → Type 0
HasLines None = Unit {0}
HasLines (Some lines) = lines ≢ []

-- ---- batches that are answered

-- so many were answered, with these statuses
pub record Counts (old new : Answered) (parts : List Part) : Type 0 where
  pub count : new.count ≡ old.count + length parts
  pub status : new.status ≡ max old.status (worst_in parts)

-- Batches of this kind were read and answered, and their whole texts were written.
pub record AnswersAll (Are : ℕ → List Part → Type 0) (old new : Answered) (left rest : Option (List Read)) (text : List ℕ) : Type 0 where
  pub parts : List Part
  pub are : Are old.count parts
  pub counts : Counts old new parts
  pub read : Takes left rest (map (λ (p : Part). p.read) parts)
  pub written : text ≡ text_in parts

-- The source failed; or memory ran out; or the text that refuses a batch was cut off.
pub data StopsAt (number : ℕ) (stop : Stop) (left : Option (List Read)) (rest : List ℕ) : Type 0 where
  no_batch : rest ≡ [] → StopsAt number stop left rest
  in_refusal : stop ≢ stops.Source → (batch : Read) (fault : ScriptFault) → IsFirst left batch → IsRefusalOf batch fault
      → IsFront rest (refused_text number fault) → StopsAt number stop left rest

-- no call was made
abbrev pub no_calls : Tally
no_calls = record { calls = 0; getattr = 0; lookup = 0; read = 0; write = 0; commit = 0 }

-- The same; or the text that ends a batch without a line was cut off, before any call.
pub data StopsIdle (count : Bool) (number : ℕ) (stop : Stop) (left : Option (List Read)) (rest : List ℕ) : Type 0 where
  as_any : StopsAt number stop left rest → StopsIdle count number stop left rest
  in_done : stop ≢ stops.Source → (batch : Read) → IsFirst left batch → asked_in batch ≡ Ok [] → IsFront rest (counts_text count no_calls ++ done_text number 0)
      → StopsIdle count number stop left rest

-- Batches of this kind were answered. Then one was read that may be run, or there is none; or no further one could be read or answered.
abbrev pub FindsScript : (ℕ → List Part → Type 0) → (ℕ → Stop → Option (List Read) → List ℕ → Type 0) → Answered → Answered → Option (List Read)
    → Option (List Read) → Result (Option (List ScriptLine)) Stop → List ℕ → Type 0
FindsScript Are Stops old new left rest (Ok (Some lines)) text =
    (mid : Option (List Read)) × AnswersAll Are old new left mid text × ((batch : Read) × Takes mid rest (batch ∷ []) × (asked_in batch ≡ Ok lines))
FindsScript Are Stops old new left rest (Ok None) text = (mid : Option (List Read)) × AnswersAll Are old new left mid text × IsAtEnd mid rest
FindsScript Are Stops old new left rest (Err stop) text =
    (mid : Option (List Read)) × ((front back : List ℕ) × AnswersAll Are old new left mid front × (text ≡ front ++ back) × Stops (suc new.count) stop mid back)

-- the one batch was answered; or a front of its text was written
abbrev pub AnswersOne : {T : Type 0} → ℕ → List ℕ → Answered → Answered → Result T Stop → List ℕ → Type 0
AnswersOne status whole old new (Ok x) text = (new.count ≡ old.count + 1) × (new.status ≡ max old.status status) × (text ≡ whole)
AnswersOne status whole old new (Err stop) text = (new ≡ old) × (stop ≢ stops.Source) × IsFront text whole

-- The next batch was read, and answered if it is refused. Or there is none; or it could not be read or answered.
abbrev pub TakesOne : Answered → Answered → Option (List Read) → Option (List Read) → Result Next Stop → List ℕ → Type 0
TakesOne old new left rest (Ok (nexts.Script lines)) text =
    (batch : Read) × Takes left rest (batch ∷ []) × (asked_in batch ≡ Ok lines) × (text ≡ []) × (new ≡ old)
TakesOne old new left rest (Ok (nexts.Refused fault)) text =
    (batch : Read) × Takes left rest (batch ∷ []) × (asked_in batch ≡ Err fault)
    × AnswersOne {T = Unit {0}} 3 (refused_text (old.count + 1) fault) old new (Ok tt) text
TakesOne old new left rest (Ok nexts.End) text = IsAtEnd left rest × (text ≡ []) × (new ≡ old)
TakesOne old new left rest (Err stop) text = (new ≡ old) × StopsAt (old.count + 1) stop left text

abbrev pub AnswersIf : Next → Answered → Answered → List ℕ → Type 0
AnswersIf (nexts.Refused fault) old new text = AnswersOne {T = Unit {0}} 3 (refused_text (old.count + 1) fault) old new (Ok tt) text
AnswersIf next old new text = (text ≡ []) × (new ≡ old)

abbrev pub IsCutRefusal : Next → Answered → List ℕ → Type 0
IsCutRefusal (nexts.Refused fault) old text = IsFront text (refused_text (old.count + 1) fault)
IsCutRefusal next old text = ⊥

-- a batch that was read was answered if it is refused
abbrev pub AnswersNext : Next → Answered → Answered → Result Next Stop → List ℕ → Type 0
AnswersNext next old new (Ok now) text = (now ≡ next) × AnswersIf next old new text
AnswersNext next old new (Err stop) text = (new ≡ old) × (stop ≢ stops.Source) × IsCutRefusal next old text

-- ---- batches before the first line

-- the batch of a script without a line was answered; or a front of its text was written
abbrev pub AnswersIdle : Bool → List ScriptLine → Answered → Answered → Result (Option (List ScriptLine)) Stop → List ℕ → Type 0
AnswersIdle count [] old new result text = AnswersOne 0 (counts_text count no_calls ++ done_text (old.count + 1) 0) old new result text
AnswersIdle count (l ∷ ls) old new (Ok some) text = (new ≡ old) × (text ≡ [])
AnswersIdle count (l ∷ ls) old new (Err stop) text = ⊥

abbrev pub AnswersFound : Bool → Result (Option (List ScriptLine)) Stop → Answered → Answered → Result (Option (List ScriptLine)) Stop → List ℕ → Type 0
AnswersFound count (Ok (Some lines)) old new result text = AnswersIdle count lines old new result text
AnswersFound count (Ok None) old new result text = (result ≡ Ok None) × (new ≡ old) × (text ≡ [])
AnswersFound count (Err stop) old new result text = (result ≡ Err stop) × (new ≡ old) × (text ≡ [])

-- Batches were refused. Then one was read that may be run, and answered if it has no line; or there is none; or it came to an end.
pub record TakesIdle (count : Bool) (old new : Answered) (left rest : Option (List Read)) (result : Result (Option (List ScriptLine)) Stop)
    (text : List ℕ) : Type 0 where
  pub found : Result (Option (List ScriptLine)) Stop
  pub mid : Answered
  pub front : List ℕ
  pub back : List ℕ
  pub finds : FindsScript RefusedFrom StopsAt old mid left rest found front
  pub answers : AnswersFound count found mid new result back
  pub same : IfOk result (λ r. found ≡ Ok r)
  pub text_is : text ≡ front ++ back
