-- A text read as a schedule of two clients: a schedule that may have one line that says whose turns come first.
use Rattle.std.specs.Prelude.{◌≡◌, ◌==◌, ◌||◌, ◌&&◌, ℕ, suc, List, [], ◌∷◌, codes, length, nat_lt, Bool, true, false, Option, Some, None, Result, Ok, Err, unwrap_or, option_and_then, if◌then◌else◌}
use Rattle.std.specs.List.{list_all}
use Rattle.std.specs.Option.{option_map, option_map_or}
use Rattle.std.specs.Str.{bytes_eq}
use Rattle.script_text.specs.Lines.{lines, words, two}
use Rattle.world_link.specs.declared.pair_schedule.PairSchedule.{PairSchedule}
use Rattle.world_link.specs.declared.pair_world.PairWorld.{PairWorld}
use Rattle.world_link.specs.declared.schedule.ScheduleFault.{ScheduleFault}
use Rattle.world_link.specs.declared.schedule.ScheduleFault.TheVariants as faults
use Rattle.world_link.specs.Pairs.{seen_pair}
use Rattle.world_link.specs.Readings.{ReadView, after_line, nothing_read, read_view}
use Rattle.world_link.specs.Routing.{no_ends}
use Rattle.world_link.specs.Starting.{world_of}

-- `a` or `b`, one for each client
abbrev pub is_letter : ℕ → Bool
is_letter b = (b == 97) || (b == 98)

abbrev pub AreLetters : List ℕ → Type 0
AreLetters letters = list_all is_letter letters ≡ true

-- the letters of a line `order LETTERS`
abbrev pub letters_of : List ℕ × List ℕ → Option (List ℕ)
letters_of w = if bytes_eq w.0 (codes "order") && list_all is_letter w.1 then Some w.1 else None

abbrev pub order_in : List (List ℕ) → Option (List ℕ)
order_in words = option_and_then letters_of (two words)

pub record PairReadView : Type 0 where
  pub read : ReadView
  pub order : Option (List ℕ)

-- an order is given once
abbrev pub ordered : PairReadView → Option (List ℕ) → List ℕ → Option PairReadView
ordered p None letters = Some (record p { order = Some letters })
ordered p (Some order) letters = None

abbrev pub after_order : PairReadView → List ℕ → Option (List ℕ) → Option PairReadView
after_order p line (Some letters) = ordered p p.order letters
after_order p line None = option_map (λ read. record p { read = read }) (after_line p.read line)

-- after a line; None if it isn't of the form
abbrev pub after_pair_line : PairReadView → List ℕ → Option PairReadView
after_pair_line p line = after_order p line (order_in (words line))

-- After so many lines and then these: what is read, or the number of the first line that isn't of the form.
abbrev pub after_pair_lines : ℕ → PairReadView → List (List ℕ) → Result PairReadView ℕ
after_pair_lines count p [] = Ok p
after_pair_lines count p (line ∷ more) = option_map_or (λ next. after_pair_lines (suc count) next more) (after_pair_line p line) (Err (suc count))

abbrev pub no_pair_read : PairReadView
no_pair_read = record { read = nothing_read; order = None }

-- A text of 1,048,576 bytes at most, read line by line. Line 0 stands for a longer text.
abbrev pub pair_read_of : List ℕ → Result PairReadView ℕ
pair_read_of text = if nat_lt 1048576 (length text) then Err 0 else after_pair_lines 0 no_pair_read (lines text)

abbrev pub pair_read_view : PairSchedule → PairReadView
pair_read_view s = record { read = read_view s.schedule; order = s.order }

-- What comes of a text is what is read, or its first fault. Out of memory may come at any text.
abbrev pub IsPairRead : Result PairReadView ℕ → Result PairSchedule ScheduleFault → Type 0
IsPairRead read (Ok s) = read ≡ Ok (pair_read_view s)
IsPairRead read (Err (faults.Line n)) = read ≡ Err n
IsPairRead read (Err faults.Memory) = Unit {0}

-- whether a line was of the form, and what is read before and after it
abbrev pub PairReads : Option PairReadView → Bool → PairReadView → Type 0
PairReads None formed new = formed ≡ false
PairReads (Some p) formed new = (formed ≡ true) × (new ≡ p)

-- ---- the world that it begins

-- it begins as it was read; without a line for it the order is empty
pub record BeginsPairAs (p : PairReadView) (world : PairWorld) (tick : ℕ) (order : List ℕ) : Type 0 where
  pub world_is : (seen_pair world).world ≡ world_of p.read
  pub ends_are : (seen_pair world).ends ≡ no_ends
  pub tick_is : tick ≡ p.read.plan.tick
  pub order_is : order ≡ unwrap_or p.order []

abbrev pub BeginsPairBy : Result PairReadView ℕ → PairWorld → ℕ → List ℕ → Type 0
BeginsPairBy (Ok p) world tick order = BeginsPairAs p world tick order
BeginsPairBy (Err n) world tick order = ⊥

-- A text that is read begins a world, or its first fault is named. Out of memory may come at any text.
abbrev pub BeginsPair : Result PairReadView ℕ → Result (PairWorld × ℕ × List ℕ) ScheduleFault → Type 0
BeginsPair read (Ok begun) = BeginsPairBy read begun.0 begun.1 begun.2
BeginsPair read (Err (faults.Line n)) = read ≡ Err n
BeginsPair read (Err faults.Memory) = Unit {0}
