-- What a text says as a trace: empty lines and lines that begin with `#` are passed over.
use Rattle.std.specs.Prelude.{◌≡◌, ℕ, suc, List, [], ◌∷◌, length, codes, Bool, true, nat_lt, Option, Some, None, Result, Ok, Err, if◌then◌else◌}
use Rattle.std.specs.Str.{bytes_eq, is_utf8}
use Rattle.script_text.specs.Lines.{lines, words, is_skipped}
use Rattle.trace_data.specs.declared.trace.Trace.{Trace}
use Rattle.trace_text.specs.declared.fault.TraceFault.{TraceFault}
use Rattle.trace_text.specs.declared.fault.TraceFault.TheVariants as faults
use Rattle.trace_text.specs.EntryLines.{began_line, answered_line, dialed_line, sent_line, delivered_line, failed_line, clock_line, flushed_line, reboot_line, executed_line, foreign_line}
use Rattle.trace_text.specs.HeadLines.{root_line, lives_line, noac_line, nocto_line}
use Rattle.trace_text.specs.ObjectLines.{verf_line, obj_line, gone_line, name_line, unname_line}
use Rattle.trace_text.specs.Told.{Told, Says, begun, nothing_told}
use Rattle.trace_text.specs.Words.{◌>>=◌, first_of}

-- ---- a line

-- a line that is an entry, by its first word
abbrev pub entry_line : Told → List ℕ → List (List ℕ) → Option Told
entry_line told word words =
    if bytes_eq word (codes "began") then began_line told words else
    (if bytes_eq word (codes "answered") then answered_line told words else
    (if bytes_eq word (codes "dialed") then dialed_line told words else
    (if bytes_eq word (codes "sent") then sent_line told words else
    (if bytes_eq word (codes "delivered") then delivered_line told words else
    (if bytes_eq word (codes "failed") then failed_line told words else
    (if bytes_eq word (codes "clock") then clock_line told words else
    (if bytes_eq word (codes "flushed") then flushed_line told words else
    (if bytes_eq word (codes "reboot") then reboot_line told words else
    (if bytes_eq word (codes "executed") then executed_line told words else
    (if bytes_eq word (codes "foreign") then foreign_line told words else None))))))))))

-- a line by its first word
abbrev pub line_by : Told → List ℕ → List (List ℕ) → Option Told
line_by told word words =
    if bytes_eq word (codes "root") then root_line told words else
    (if bytes_eq word (codes "lives") then lives_line told words else
    (if bytes_eq word (codes "noac") then noac_line told words else
    (if bytes_eq word (codes "nocto") then nocto_line told words else
    (if bytes_eq word (codes "verf") then verf_line told words else
    (if bytes_eq word (codes "obj") then obj_line told words else
    (if bytes_eq word (codes "gone") then gone_line told words else
    (if bytes_eq word (codes "name") then name_line told words else
    (if bytes_eq word (codes "unname") then unname_line told words else entry_line told word words))))))))

-- what is told after a line that is UTF-8, if it is of the form
abbrev pub told_after : Told → List ℕ → Option Told
told_after told line = if is_utf8 line then (first_of (words line) >>= λ first. line_by told first.0 first.1 >>= λ new. Some (begun new)) else None

-- the same of any line
abbrev pub after_line : Told → List ℕ → Option Told
after_line told line = if is_skipped line then Some told else told_after told line

-- ---- a text

-- the line of that number isn't of the form, or there is more to read
abbrev pub read_on : ℕ → Option Told → (Told → Result Told ℕ) → Result Told ℕ
read_on number None more = Err number
read_on number (Some told) more = more told

-- After so many lines, which told this, and then more lines: what all tell, or the number of the first that isn't of the form.
abbrev pub after_lines : ℕ → Told → List (List ℕ) → Result Told ℕ
after_lines count told [] = Ok told
after_lines count told (line ∷ more) = read_on (suc count) (after_line told line) (λ new. after_lines (suc count) new more)

-- what a text tells, or the number of its first line that isn't of the form, 0 if the text is too long
abbrev pub text_told : List ℕ → Result Told ℕ
text_told text = if nat_lt 1048576 (length text) then Err 0 else after_lines 0 nothing_told (lines text)

-- a trace says what a text tells
abbrev pub SaysAll : Trace → Result Told ℕ → Type 0
SaysAll trace (Ok told) = Says trace told
SaysAll trace (Err number) = ⊥

-- What came of a text is the trace that says what it tells, or its first line that isn't of the form. Out of memory may come at any text.
abbrev pub IsRead : Result Told ℕ → Result Trace TraceFault → Type 0
IsRead told (Ok trace) = SaysAll trace told
IsRead told (Err (faults.Line number)) = told ≡ Err number
IsRead told (Err faults.Memory) = Unit {0}
