-- How an input is read.
use Rattle.std.specs.Prelude.{◌≡◌, ◌≢◌, ◌≤◌, ◌<◌, ◌+◌, ◌⊎◌, ℕ, List, [], ◌∷◌, ◌++◌, length, take, Bool, true, false, Option, Some, None, Result, Ok, Err, if◌then◌else◌}
use Rattle.std.specs.Option.{option_map}
use Rattle.script_text.specs.Lines.{is_feed}
use Rattle.script_batches.specs.declared.held.ReadFault.{ReadFault}
use Rattle.script_batches.specs.declared.held.ReadFault.TheVariants as faults
use Rattle.script_batches.specs.declared.input.Batch.{Batch}
use Rattle.script_batches.specs.declared.input.Taken.{Taken}
use Rattle.script_batches.specs.declared.input.Taken.TheVariants as takes
use Rattle.script_batches.specs.Batches.{HeldView, InputView, Read, batches_of, counted, is_go, is_idle, kept_bytes, raw_lines, work_left}

abbrev pub is_none_left : List ℕ → Bool
is_none_left [] = true
is_none_left (b ∷ bytes) = false

-- a fault of the source has this cause
abbrev pub HasFault : {T : Type 0} → Result T ReadFault → Type 0 → Type 0
HasFault (Ok x) P = Unit {0}
HasFault (Err faults.Failed) P = P
HasFault (Err faults.Memory) P = Unit {0}

-- ---- pieces

-- a read was used up, and gave so many bytes, 4,096 at most
pub record ReadsPiece (old new : HeldView) (n : ℕ) : Type 0 where
  pub reads : old.reads ≡ new.reads + 1
  pub long : length new.bytes ≡ n
  pub few : n ≤ 4096

-- they stood in front of what was left; there are none only at the end
pub record ReadsFront (left rest bytes : List ℕ) (n : ℕ) : Type 0 where
  pub is : left ≡ bytes ++ rest
  pub ends : n ≡ 0 → left ≡ []

-- the same of a source that may tell what is left
abbrev pub Reads : Option (List ℕ) → Option (List ℕ) → List ℕ → ℕ → Type 0
Reads None rest bytes n = Unit {0}
Reads (Some left) None bytes n = ⊥
Reads (Some left) (Some rest) bytes n = ReadsFront left rest bytes n

-- whether something is held now, and no more may be taken than before
pub record HoldsSome (old new : HeldView) (any : Bool) : Type 0 where
  pub some : any ≡ true → new.bytes ≢ []
  pub none : any ≡ false → new.bytes ≡ []
  pub less : work_left new ≤ work_left old

-- what is held and left stays the same; nothing is held only at the end
pub record FillsBy (old left new rest : List ℕ) (any : Bool) : Type 0 where
  pub is : old ++ left ≡ new ++ rest
  pub none : any ≡ false → rest ≡ []

-- the same of a source that may tell what is left
abbrev pub Fills : Option (List ℕ) → Option (List ℕ) → List ℕ → List ℕ → Bool → Type 0
Fills None rest old new any = Unit {0}
Fills (Some left) None old new any = ⊥
Fills (Some left) (Some rest) old new any = FillsBy old left new rest any

abbrev pub HasNoFeed : List ℕ → Type 0
HasNoFeed [] = Unit {0}
HasNoFeed (b ∷ bytes) = (is_feed b ≡ false) × HasNoFeed bytes

-- bytes that end with the only line feed in them
pub record EndsLine (bytes : List ℕ) : Type 0 where
  pub front : List ℕ
  pub is : bytes ≡ front ++ 10 ∷ []
  pub before : HasNoFeed front

-- A piece was taken from the front of what was held, and put behind the line, of which a front is kept. It ends with the first line feed, or there is none
-- and all was taken.
pub record TakesPiece (old new line longer : List ℕ) (ends : Bool) : Type 0 where
  pub piece : List ℕ
  pub is : old ≡ piece ++ new
  pub longer_is : longer ≡ take kept_bytes (line ++ piece)
  pub feed : ends ≡ true → EndsLine piece
  pub none : ends ≡ false → new ≡ []
  pub bare : ends ≡ false → HasNoFeed piece

-- ---- a line

-- How a line goes on: by a piece of it, by its end, or not at all at the end of the input.
pub data LineGoes (input rest line longer : List ℕ) (ended : Bool) : Type 0 where
  piece_more : ended ≡ false → (piece : List ℕ) → input ≡ piece ++ rest → HasNoFeed piece → longer ≡ take kept_bytes (line ++ piece)
      → LineGoes input rest line longer ended
  piece_last : ended ≡ true → (piece : List ℕ) → input ≡ piece ++ rest → EndsLine piece → longer ≡ take kept_bytes (line ++ piece)
      → LineGoes input rest line longer ended
  input_ends : ended ≡ true → input ≡ [] → rest ≡ [] → longer ≡ line → LineGoes input rest line longer ended

-- the same of a source that may tell what is left
abbrev pub Goes : Option (List ℕ) → Option (List ℕ) → HeldView → HeldView → List ℕ → List ℕ → Bool → Type 0
Goes None rest old now line longer ended = Unit {0}
Goes (Some left) None old now line longer ended = ⊥
Goes (Some left) (Some rest) old now line longer ended = LineGoes (old.bytes ++ left) (now.bytes ++ rest) line longer ended

-- Less may be taken than before, unless the line is at its end and as it was.
pub record UsesUp (old now : HeldView) (line longer : List ℕ) (ended : Bool) : Type 0 where
  pub never : work_left now ≤ work_left old
  pub less : ended ≡ false → work_left now < work_left old
  pub same : (longer ≡ line) ⊎ (work_left now < work_left old)

-- the first line was taken, of which a front is kept; or there is none
pub data LineOf (input rest line : List ℕ) : Type 0 where
  some_line : (b : ℕ) (bytes : List ℕ) → raw_lines input ≡ (b ∷ bytes) ∷ raw_lines rest → line ≡ take kept_bytes (b ∷ bytes) → LineOf input rest line
  no_line : input ≡ [] → rest ≡ [] → line ≡ [] → LineOf input rest line

-- the same of a source that may tell what is left
abbrev pub GivesLine : Option (List ℕ) → Option (List ℕ) → HeldView → HeldView → List ℕ → Type 0
GivesLine None rest old now line = Unit {0}
GivesLine (Some left) None old now line = ⊥
GivesLine (Some left) (Some rest) old now line = LineOf (old.bytes ++ left) (now.bytes ++ rest) line

-- no more may be taken than before, and less if there is anything of the line
pub record IsUsed (old now : HeldView) (line : List ℕ) : Type 0 where
  pub never : work_left now ≤ work_left old
  pub some : line ≢ [] → work_left now < work_left old

-- ---- a batch

-- another line was counted
abbrev pub adds_line : InputView → InputView
adds_line view = record view { lines = counted (view.lines + 1) }

abbrev pub read_of : Batch → Read
read_of batch = record { before = batch.before; last = batch.last; text = batch.text.items; ended = batch.ended }

-- what there is at the end of an input
abbrev pub rest_of : ℕ → ℕ → List ℕ → Option Read
rest_of before last text = if is_idle text then None else Some (record { before = before; last = last; text = text; ended = false })

-- the batch that was read: up to its end, or what there is at the end of an input
abbrev pub batch_of : Bool → ℕ → ℕ → List ℕ → Option Read
batch_of true before last text = Some (record { before = before; last = last; text = text; ended = true })
batch_of false before last text = rest_of before last text

-- A line of which a front is kept was counted, and ends the batch or is put behind its text. Or there is none.
abbrev pub AddsLine : InputView → InputView → List ℕ → List ℕ → List ℕ → Taken → Type 0
AddsLine old now line text longer takes.Line = (now ≡ adds_line old) × (line ≢ []) × (is_go line ≡ false) × (longer ≡ take kept_bytes (text ++ line))
AddsLine old now line text longer takes.Go = (now ≡ adds_line old) × (line ≢ []) × (is_go line ≡ true) × (longer ≡ text)
AddsLine old now line text longer takes.End = (now ≡ old) × (line ≡ []) × (longer ≡ text)

-- A line was read, of which a front is kept, and was put so behind the text of a batch.
pub record TakesLine (left rest : Option (List ℕ)) (old now : InputView) (text longer : List ℕ) (taken : Taken) : Type 0 where
  pub line : List ℕ
  pub mid : InputView
  pub gives : GivesLine left rest old.held mid.held line
  pub lines : mid.lines ≡ old.lines
  pub used : IsUsed old.held mid.held line
  pub adds : AddsLine mid now line text longer taken

-- lines are counted up to 2 ^ 28
pub record IsCountedIn (batch : Batch) : Type 0 where
  pub before : batch.before ≤ 268435456
  pub last : batch.last ≤ 268435456

-- the first batch of what there was, and the others are those of what is left; or there is none
abbrev pub NextOf : InputView → List ℕ → InputView → List ℕ → Option Batch → Type 0
NextOf old left now rest None = batches_of old.lines (old.held.bytes ++ left) ≡ []
NextOf old left now rest (Some batch) = batches_of old.lines (old.held.bytes ++ left) ≡ read_of batch ∷ batches_of now.lines (now.held.bytes ++ rest)

-- the same of a source that may tell what is left
abbrev pub Gives : Option (List ℕ) → Option (List ℕ) → InputView → InputView → Option Batch → Type 0
Gives None rest old now result = Unit {0}
Gives (Some left) None old now result = ⊥
Gives (Some left) (Some rest) old now result = NextOf old left now rest result

-- Lines were read up to a `go`, or to the end of an input, and a front of them is kept as the text. So the first batch is known.
pub record TookLines (left rest : Option (List ℕ)) (old now : InputView) (text : List ℕ) (ended : Bool) : Type 0 where
  pub gives : (result : Option Batch) → option_map read_of result ≡ batch_of ended old.lines now.lines text → Gives left rest old now result
  pub kept : length text ≤ 1048577
  pub counted_is : now.lines ≤ 268435456
  pub used : IsUsed old.held now.held text
  pub less : ended ≡ true → work_left now.held < work_left old.held
