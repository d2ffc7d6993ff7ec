-- What a text says as a script.
use Rattle.std.specs.Prelude.{◌≡◌, ◌+◌, ℕ, true, suc, min, ok_or, List, [], ◌∷◌, ◌++◌, length, nat_lt, Option, Some, None, Result, Ok, Err, if◌then◌else◌}
use Rattle.std.specs.Option.{option_map_or}
use Rattle.std.specs.Str.{is_utf8}
use Rattle.script_text.specs.Lines.{lines, words, is_skipped}
use Rattle.script_text.specs.Numbers.{number_of}
use Rattle.nfs_script.specs.declared.fault.Cause.{Cause}
use Rattle.nfs_script.specs.declared.fault.Cause.TheVariants as causes
use Rattle.nfs_script.specs.declared.fault.ScriptFault.{ScriptFault}
use Rattle.nfs_script.specs.declared.fault.ParseFault.{ParseFault}
use Rattle.nfs_script.specs.declared.fault.ParseFault.TheVariants as faults
use Rattle.nfs_script.specs.declared.script.ScriptLine.{ScriptLine}
use Rattle.nfs_script.specs.Faults.{◌>>=◌, fault_at}
use Rattle.nfs_script.specs.Commands.{op_of}

-- the first word and those after it
abbrev pub first_of : Cause → List (List ℕ) → Result (List ℕ × List (List ℕ)) Cause
first_of cause [] = Err cause
first_of cause (word ∷ words) = Ok (word, words)

abbrev pub lane_of : List ℕ → Result ℕ Cause
lane_of word = ok_or (number_of 1 16 word) causes.Lane

-- a line's number and its words: the lane, the command and the words of the command
unfoldable pub asked_of : ℕ → List (List ℕ) → Result ScriptLine Cause
asked_of number words = do
  first ← first_of causes.Lane words
  lane ← lane_of first.0
  command ← first_of causes.Command first.1
  op ← op_of command.0 command.1
  Ok (record { lane = lane; line = number; op = op })

-- a line's number and its text; None if the line is skipped
abbrev pub line_of : ℕ → List ℕ → Result (Option ScriptLine) Cause
line_of number line = if is_skipped line then Ok None else (asked_of number (words line) >>= λ asked. Ok (Some asked))

-- after some lines and then this one
abbrev pub taken : ℕ → List ScriptLine → Result (Option ScriptLine) Cause → Result (List ScriptLine) ScriptFault
taken number before (Ok None) = Ok before
taken number before (Ok (Some asked)) = Ok (before ++ asked ∷ [])
taken number before (Err cause) = Err (fault_at number cause)

abbrev pub after_line : ℕ → List ScriptLine → List ℕ → Result (List ScriptLine) ScriptFault
after_line number before line = taken number before (line_of number line)

-- After so many lines, which asked for these, and then more lines: what all ask for, or the first faulty line.
abbrev pub after_lines : ℕ → List ScriptLine → List (List ℕ) → Result (List ScriptLine) ScriptFault
after_lines count before [] = Ok before
after_lines count before (line ∷ more) = after_line (suc count) before line >>= λ asked. after_lines (suc count) asked more

-- After so many lines and then more: the first that isn't UTF-8, or else that there are lines after the last one that there may be.
abbrev pub lines_fault : ℕ → ℕ → List (List ℕ) → Option ScriptFault
lines_fault last count [] = if nat_lt last count then Some (fault_at (last + 1) causes.ManyLines) else None
lines_fault last count (line ∷ more) = if is_utf8 line then lines_fault last (suc count) more else Some (fault_at (suc count) causes.Utf8)

-- After so many lines, which asked for these, and then more lines: what all ask for, or their fault as text, or else the first faulty line.
abbrev pub lines_by : ℕ → ℕ → List ScriptLine → List (List ℕ) → Result (List ScriptLine) ScriptFault
lines_by last count before more = option_map_or (λ fault. Err fault) (lines_fault last count more) (after_lines count before more)

-- the fault of a text as a whole, after so many lines
abbrev pub text_fault : ℕ → ℕ → List ℕ → Option ScriptFault
text_fault last before text = if nat_lt 1048576 (length text) then Some (fault_at 0 causes.Long) else lines_fault last before (lines text)

-- what a text asks for after so many lines, or its fault
abbrev pub script_by : ℕ → ℕ → List ℕ → Result (List ScriptLine) ScriptFault
script_by last before text = option_map_or (λ fault. Err fault) (text_fault last before text) (after_lines before [] (lines text))

-- what a text asks for, or its fault: it has 16,384 lines at most
abbrev pub script_of : List ℕ → Result (List ScriptLine) ScriptFault
script_of text = script_by 16384 0 text

-- The last line that a text may have whose lines are numbered on: it has 16,384 lines at most, and no number is above 2 ^ 28 - 1.
unfoldable pub last_line : ℕ → ℕ
last_line before = min (before + 16384) 268435455

-- what a text asks for whose lines are numbered on from so many, or its fault
abbrev pub script_from : ℕ → List ℕ → Result (List ScriptLine) ScriptFault
script_from before text = script_by (last_line before) before text

-- What came of a text is what it asks for, or its fault. Out of memory may come at any text.
abbrev pub IsParsed : Result (List ScriptLine) ScriptFault → Result (List ScriptLine) ParseFault → Type 0
IsParsed read (Ok asked) = read ≡ Ok asked
IsParsed read (Err (faults.Script fault)) = read ≡ Err fault
IsParsed read (Err faults.Memory) = Unit {0}

-- what came of a line after some others, and what they all ask for
abbrev pub Takes : Result (List ScriptLine) ScriptFault → Result Unit ParseFault → List ScriptLine → Type 0
Takes read (Ok u) asked = read ≡ Ok asked
Takes read (Err (faults.Script fault)) asked = read ≡ Err fault
Takes read (Err faults.Memory) asked = Unit {0}

-- the fault of a line, unless what follows it has one as text
abbrev pub first_of_faults : ℕ → ℕ → List (List ℕ) → ParseFault → ParseFault
first_of_faults last number rest fault = option_map_or (λ text_fault. faults.Script text_fault) (lines_fault last number rest) fault

-- what came of lines as text is their fault
abbrev pub AreText : Option ScriptFault → Result Unit ParseFault → Type 0
AreText fault (Ok u) = fault ≡ None
AreText fault (Err (faults.Script found)) = fault ≡ Some found
AreText fault (Err faults.Memory) = ⊥

-- What came of the line of that number, which lines follow: they are left, or this is what comes of all.
abbrev pub GoesOn : ℕ → ℕ → List ScriptLine → List ℕ → List (List ℕ) → Result Unit ParseFault → List ScriptLine → Type 0
GoesOn last number before line rest (Ok u) asked = (is_utf8 line ≡ true) × (after_line number before line ≡ Ok asked)
GoesOn last number before line rest (Err (faults.Script fault)) asked =
    (count : ℕ) → number ≡ suc count → lines_by last count before (line ∷ rest) ≡ Err fault
GoesOn last number before line rest (Err faults.Memory) asked = Unit {0}
