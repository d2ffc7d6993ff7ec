-- A text read as a schedule.
use Rattle.std.specs.Prelude.{◌≡◌, ℕ, suc, List, [], ◌∷◌, length, nat_lt, Bool, true, false, not, Option, Some, None, Result, Ok, Err, option_and_then, if◌then◌else◌}
use Rattle.std.specs.Option.{option_map, option_map_or}
use Rattle.std.specs.Str.{is_utf8}
use Rattle.script_text.specs.Lines.{lines, words, is_skipped}
use Rattle.world_model.specs.NameService.{keeps_all}
use Rattle.export_fs.specs.View.{View}
use Rattle.export_fs.specs.Changes.{new_dir}
use Rattle.export_fs.specs.Placing.{placed}
use Rattle.world_link.specs.declared.schedule.ScheduleFault.{ScheduleFault}
use Rattle.world_link.specs.declared.schedule.ScheduleFault.TheVariants as faults
use Rattle.world_link.specs.declared.directive.Directive.{Directive}
use Rattle.world_link.specs.declared.directive.Directive.TheVariants.{Place}
use Rattle.world_link.specs.declared.reading.Schedule.{Schedule}
use Rattle.world_link.specs.Directives.{directive_of}
use Rattle.world_link.specs.Plans.{PlanView, no_plan, planned}
use Rattle.world_link.specs.Shown.{shown}

-- the plan and the export after some lines
pub record ReadView : Type 0 where
  pub plan : PlanView
  pub export : View

-- after a line that asks for this; None if it asks for an object that can't be placed
abbrev pub after_directive : ReadView → Directive → Option ReadView
after_directive read (Place path file) = option_map (λ export. record read { export = export }) (placed read.export path file)
after_directive read d = Some (record read { plan = planned read.plan d })

-- after a line; None if it isn't of the form
abbrev pub after_line : ReadView → List ℕ → Option ReadView
after_line read line =
    if not (is_utf8 line) then None else
    (if is_skipped line then Some read else option_and_then (after_directive read) (directive_of (words line)))

-- After so many lines and then these: what is read, or the number of the first line that isn't of the form.
abbrev pub after_lines : ℕ → ReadView → List (List ℕ) → Result ReadView ℕ
after_lines count read [] = Ok read
after_lines count read (line ∷ more) =
    option_map_or (λ next. after_lines (suc count) next more) (after_line read line) (Err (suc count))

-- the root alone, made as change 1
abbrev pub empty_export : View
empty_export = record { nodes = new_dir 0 1 keeps_all ∷ []; counter = 1; reboots = 0 }

-- nothing is planned, and there is the root alone
abbrev pub nothing_read : ReadView
nothing_read = record { plan = no_plan; export = empty_export }

-- A text of 1,048,576 bytes at most, read line by line. Line 0 stands for a longer text.
abbrev pub read_of : List ℕ → Result ReadView ℕ
read_of text = if nat_lt 1048576 (length text) then Err 0 else after_lines 0 nothing_read (lines text)

abbrev pub read_view : Schedule → ReadView
read_view schedule = record { plan = shown schedule.plan; export = schedule.export }

-- What comes of a text is what is read, or its first fault. Out of memory may come at any text.
abbrev pub IsRead : Result ReadView ℕ → Result Schedule ScheduleFault → Type 0
IsRead read (Ok schedule) = read ≡ Ok (read_view schedule)
IsRead read (Err (faults.Line n)) = read ≡ Err n
IsRead read (Err faults.Memory) = Unit {0}

-- whether a line was of the form, and what is read before and after it
abbrev pub Reads : Option ReadView → Bool → ReadView → Type 0
Reads None formed new = formed ≡ false
Reads (Some read) formed new = (formed ≡ true) × (new ≡ read)
