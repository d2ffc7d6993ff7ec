-- What is written of a verdict, and of a text that is no trace, and the statuses with it.
use Rattle.std.specs.Prelude.{◌≡◌, ◌==◌, ◌++◌, ◌⊎◌, ℕ, List, [], Option, Some, None, Ok, Err, codes, decimal, unwrap_or, if◌then◌else◌}
use Rattle.script_runs.specs.Streams.{TakesAll}
use Rattle.world_model.specs.Follows.{IsFront}
use Rattle.world_model.specs.Mounts.{Origin, Given, Mounting}
use Rattle.trace_check.specs.declared.judging.Verdict.{Verdict}
use Rattle.trace_check.specs.declared.judging.Verdict.TheVariants.{Yes, No}
use Rattle.claims.specs.Modes.{Modes, modes_with}
use Rattle.trace_check.specs.Judged.{Says, SaysYes}
use Rattle.trace_claims.specs.Judging.{FirstMount, IsOrigin}
use Rattle.trace_claims.specs.Modes.{modes_of}
use Rattle.trace_data.specs.declared.trace.Trace.{Trace}
use Rattle.trace_data.specs.Histories.{history_of}
use Rattle.trace_text.specs.Reading.{text_told}
use Rattle.trace_text.specs.Told.{Told}

-- the word of a rule
abbrev pub rule_word : ℕ → List ℕ
rule_word rule =
    if rule == 1 then codes "lawful"
    else if rule == 2 then codes "once"
    else if rule == 3 then codes "fresh"
    else if rule == 4 then codes "settled"
    else if rule == 5 then codes "read"
    else codes "short"

-- a number after a space, and a line feed
abbrev pub number_end : ℕ → List ℕ
number_end number = codes " " ++ decimal number ++ codes "\n"

abbrev pub broken_bytes : ℕ → ℕ → List ℕ
broken_bytes rule entries = (codes "no " ++ rule_word rule) ++ number_end entries

abbrev pub verdict_bytes : Verdict → List ℕ
verdict_bytes Yes = codes "yes\n"
verdict_bytes (No rule entries) = broken_bytes rule entries

abbrev pub refusal_bytes : ℕ → List ℕ
refusal_bytes line = codes "trace" ++ number_end line

abbrev pub status_of : Verdict → ℕ
status_of Yes = 0
status_of (No rule entries) = 1

-- ---- what is told of a text

-- where the root comes from: it is told, or the first MNT asks for it
pub data IsToldOrigin (told : Told) (origin : Origin) : Type 0 where
  given : (root : List ℕ) → told.root ≡ Some root → origin ≡ Given root → IsToldOrigin told origin
  mounting : (path : List ℕ) → told.root ≡ None → FirstMount told.history.entries path → origin ≡ Mounting path → IsToldOrigin told origin

abbrev pub told_modes : Told → Modes
told_modes told = modes_with (unwrap_or told.lives 60000) told.noac told.nocto

-- a verdict on what was told, and its status
pub record IsVerdictOn (told : Told) (status : ℕ) (text : List ℕ) : Type 0 where
  pub verdict : Verdict
  pub says : (origin : Origin) → IsToldOrigin told origin → Says (told_modes told) origin told.history verdict
  pub yes : (origin : Origin) → IsToldOrigin told origin → SaysYes (told_modes told) origin told.history verdict
  pub status_is : status ≡ status_of verdict
  pub text_is : text ≡ verdict_bytes verdict

-- the same of a trace
pub record IsVerdictOf (trace : Trace) (status : ℕ) (text : List ℕ) : Type 0 where
  pub verdict : Verdict
  pub says : (origin : Origin) → IsOrigin trace origin → Says (modes_of trace) origin (history_of trace) verdict
  pub yes : (origin : Origin) → IsOrigin trace origin → SaysYes (modes_of trace) origin (history_of trace) verdict
  pub status_is : status ≡ status_of verdict
  pub text_is : text ≡ verdict_bytes verdict

-- What is told of a text, and the status with it: the verdict on the history that it tells, or with 9 its first line that isn't of the form.
pub data IsTold (trace : List ℕ) (status : ℕ) (text : List ℕ) : Type 0 where
  judged : (told : Told) → text_told trace ≡ Ok told → IsVerdictOn told status text → IsTold trace status text
  refused : (line : ℕ) → text_told trace ≡ Err line → status ≡ 9 → text ≡ refusal_bytes line → IsTold trace status text

-- The same of the text that a source had left, of which 1,048,577 bytes are read; of some text if the source doesn't tell its bytes.
pub record Tells (left : Option (List ℕ)) (status : ℕ) (text : List ℕ) : Type 0 where
  pub trace : List ℕ
  pub read : TakesAll left trace
  pub told : IsTold trace status text

-- What was written by the end: all, or nothing if the source failed; and if the sink failed or memory ran out the front of
-- what would have been written, or nothing.
pub data EndsSo (left : Option (List ℕ)) (status : ℕ) (text : List ℕ) : Type 0 where
  whole : Tells left status text → EndsSo left status text
  unread : status ≡ 4 → text ≡ [] → EndsSo left status text
  cut : (its : ℕ) (all : List ℕ) → (status ≡ 5) ⊎ (status ≡ 7) → Tells left its all → IsFront text all → EndsSo left status text
  short : status ≡ 7 → text ≡ [] → EndsSo left status text
