-- Reading on: what a text adds to what was told before it.
use Rattle.std.specs.Prelude.{◌≡◌, ℕ, List, ◌++◌, length, Option, Some}
use Rattle.script_text.specs.Lines.{lines}
use Rattle.trace_data.specs.declared.trace.Contents.{Contents}
use Rattle.trace_data.specs.declared.trace.Contents.TheVariants as holds
use Rattle.trace_data.specs.declared.trace.Updated.{Updated}
use Rattle.trace_text.specs.Shapes.{AnswerShape}
use Rattle.trace_text.specs.EntryLines.{last_shape}
use Rattle.trace_text.specs.Objects.{gone_of, list_of, or_empty}
use Rattle.trace_text.specs.Reading.{after_lines}
use Rattle.trace_text.specs.Told.{Told, object_now}
use Rattle.world_model.specs.Server.{Bytes, Entries, Holds, Listed, Object, Text}

-- After a text that is read when this was told, that is told; what follows the text is read then.
abbrev pub Reads : Told → List ℕ → Told → Type 0
Reads told text new = (count : ℕ) (rest : List ℕ) → (next : ℕ) × (after_lines count told (lines (text ++ rest)) ≡ after_lines next new (lines rest))

-- the operations that began last, so far, show these shapes
abbrev pub ShowsLast : Told → (ℕ → ℕ → AnswerShape) → Type 0
ShowsLast told shape = (lane line : ℕ) → last_shape lane line told.history.entries (length told.history.entries) ≡ shape lane line

-- what an object's line says that it holds, if a directory keeps the list that it had
abbrev pub said_of : Contents → Option Object → Holds
said_of (holds.File now stable) was = Bytes now stable
said_of (holds.Directory list) was = Entries (or_empty (list_of was))
said_of (holds.Other shown) was = Text shown

-- an object after its line: what was gone stays so
abbrev pub said_object : Updated → Option Object → Object
said_object updated was = record { attr = updated.object.attr; gone = gone_of was; holds = said_of updated.object.contents was }

-- a directory with this list
pub record IsDirectory (told : Told) (dir : List ℕ) (object : Object) (list : List Listed) : Type 0 where
  pub is : object_now told dir ≡ Some object
  pub holds : object.holds ≡ Entries list
