-- What a target takes of files, by the answers to a script, and which lines a script has for them.
use Rattle.std.specs.Prelude.{◌≡◌, ◌≤◌, ◌+◌, ◌⊎◌, ◌==◌, ◌&&◌, ℕ, zero, suc, List, [], ◌∷◌, ◌++◌, length, Bool, true, false, not, Option, Some, None, if◌then◌else◌, All}
use Rattle.nfs_types.specs.declared.mode.Mode.TheVariants as modes
use Rattle.nfs_script.specs.declared.script.ScriptLine.{ScriptLine}
use Rattle.copy_plan.specs.Files.{FilesView, ends, opens, reads}
use Rattle.copy_plan.specs.Lines.{IsNameLine}
use Rattle.copy_targets.specs.declared.target.Took.{Took}
use Rattle.copy_targets.specs.declared.target.Took.TheVariants as took
use Rattle.copy_targets.specs.Taking.{Takes}
use Rattle.fetch_scripts.specs.declared.span.Span.{Span}
use Rattle.fetch_scripts.specs.Answering.{IsOk, IsRead}

-- a target took so much more, and so it was
pub record Gave (old new : Option (List Took)) (P : List Took → Type 0) : Type 0 where
  pub more : List Took
  pub told : Takes old new more
  pub so : P more

-- no file is whole by this
abbrev pub IsUnended : Took → Type 0
IsUnended (took.Folder path) = Unit {0}
IsUnended (took.Link path text) = Unit {0}
IsUnended (took.File path) = Unit {0}
IsUnended (took.Piece bytes) = Unit {0}
IsUnended took.End = ⊥

abbrev pub AreUnended : List Took → Type 0
AreUnended [] = Unit {0}
AreUnended (t ∷ ts) = IsUnended t × AreUnended ts

-- it is of no file
abbrev pub IsOther : Took → Type 0
IsOther (took.Folder path) = Unit {0}
IsOther (took.Link path text) = Unit {0}
IsOther (took.File path) = ⊥
IsOther (took.Piece bytes) = ⊥
IsOther took.End = ⊥

abbrev pub AreOthers : List Took → Type 0
AreOthers [] = Unit {0}
AreOthers (t ∷ ts) = IsOther t × AreOthers ts

-- pieces one after another
abbrev pub took_pieces : List (List ℕ) → List Took
took_pieces [] = []
took_pieces (bytes ∷ pieces) = took.Piece bytes ∷ took_pieces pieces

-- ---- the answers to the lines of a file

-- the number of the first line that reads
abbrev pub first_read : Span → ℕ
first_read span = span.first + (if span.opens then 1 else 0)

-- each read of a file is full but the last one
abbrev pub IsExpected : Span → ℕ → List ℕ → Type 0
IsExpected span at bytes = (length bytes == 65536) ≡ not (span.ends && (span.reads == at + 1))

-- these bytes were read by a line of the file
pub record Read (text : List ℕ) (span : Span) (at : ℕ) (bytes : List ℕ) : Type 0 where
  pub is : IsRead text (first_read span + at) bytes
  pub expected : IsExpected span at bytes

-- the same of pieces, from a line of the file on
abbrev pub AreRead : List ℕ → Span → ℕ → List (List ℕ) → Type 0
AreRead text span at [] = Unit {0}
AreRead text span at (bytes ∷ pieces) = Read text span at bytes × AreRead text span (at + 1) pieces

-- what the target took at a read: its bytes, or nothing
pub data ReadTook (text : List ℕ) (span : Span) (at : ℕ) (taken : Bool) (more : List Took) : Type 0 where
  was_read : (bytes : List ℕ) → taken ≡ true → more ≡ took.Piece bytes ∷ [] → Read text span at bytes → ReadTook text span at taken more
  not_read : taken ≡ false → more ≡ [] → ReadTook text span at taken more

-- nothing was taken, and nothing more is
pub record LeftTook (taken : Bool) (more : List Took) : Type 0 where
  pub not : taken ≡ false
  pub none : more ≡ []

-- a file that all bytes came of stands at its place now, or not
pub record EndsTook (taken : Bool) (more : List Took) : Type 0 where
  pub not : taken ≡ false
  pub how : (more ≡ took.End ∷ []) ⊎ (more ≡ [])

-- more of a file is to come; or it ends, and stands at its place now if it has a read, or not
pub data EndTook (span : Span) (taken : Bool) (more : List Took) : Type 0 where
  more_comes : taken ≡ true → span.ends ≡ false → more ≡ [] → EndTook span taken more
  ends_here : taken ≡ false → span.ends ≡ true → 1 ≤ span.reads → more ≡ took.End ∷ [] → EndTook span taken more
  not_ended : taken ≡ false → more ≡ [] → EndTook span taken more

-- at so many reads one after another: the bytes of each, or it left the file
pub data ReadsTook (text : List ℕ) (span : Span) (count : ℕ) (taken : Bool) (more : List Took) : Type 0 where
  all_read : (pieces : List (List ℕ)) → taken ≡ true → more ≡ took_pieces pieces → length pieces ≡ count → AreRead text span 0 pieces
      → ReadsTook text span count taken more
  not_all : taken ≡ false → AreUnended more → ReadsTook text span count taken more

-- at the lines of a file that is begun
pub data RestTook (text : List ℕ) (span : Span) (taken : Bool) (more : List Took) : Type 0 where
  all_came : (m n : List Took) → more ≡ m ++ n → ReadsTook text span span.reads true m → EndTook span taken n → RestTook text span taken more
  some_left : taken ≡ false → AreUnended more → RestTook text span taken more

-- where the file is opened: it was, and the target began it, or not; where it goes on nothing
pub data BeginsTook (text : List ℕ) (span : Span) (was taken : Bool) (more : List Took) : Type 0 where
  begun : span.opens ≡ true → taken ≡ true → more ≡ took.File span.path ∷ [] → IsOk text span.first → BeginsTook text span was taken more
  goes_on : span.opens ≡ false → taken ≡ was → more ≡ [] → BeginsTook text span was taken more
  not_begun : taken ≡ false → more ≡ [] → BeginsTook text span was taken more

-- At the lines of a file: `taken` is whether the target took all of them and the file goes on.
pub data SpanTook (text : List ℕ) (span : Span) (was taken : Bool) (more : List Took) : Type 0 where
  going : (begins : List Took) (pieces : List (List ℕ)) → taken ≡ true → span.ends ≡ false → BeginsTook text span was true begins
      → length pieces ≡ span.reads → AreRead text span 0 pieces → more ≡ begins ++ took_pieces pieces → SpanTook text span was taken more
  whole : (begins : List Took) (pieces : List (List ℕ)) → taken ≡ false → span.ends ≡ true → 1 ≤ span.reads → BeginsTook text span was true begins
      → length pieces ≡ span.reads → AreRead text span 0 pieces → more ≡ begins ++ (took_pieces pieces ++ took.End ∷ []) → SpanTook text span was taken more
  left : taken ≡ false → AreUnended more → SpanTook text span was taken more

-- the same of files one after another
abbrev pub SpansTook : List ℕ → List Span → Bool → Bool → List Took → Type 0
SpansTook text [] was taken more = (taken ≡ was) × (more ≡ [])
SpansTook text (span ∷ spans) was taken more =
    (now : Bool) × (first : List Took) × (rest : List Took) × SpanTook text span was now first × SpansTook text spans now taken rest × (more ≡ first ++ rest)

-- ---- the lines of a script

abbrev pub read_all : ℕ → FilesView → FilesView
read_all zero v = v
read_all (suc count) v = reads 65536 (read_all count v)

abbrev pub opened : Bool → List (List ℕ) → FilesView → FilesView
opened false path v = v
opened true path v = opens modes.R path v

abbrev pub ended : Bool → FilesView → FilesView
ended false v = v
ended true v = ends v

-- the lines of a file, whose path is below this one
abbrev pub plan_span : List (List ℕ) → Span → FilesView → FilesView
plan_span from span v = ended span.ends (read_all span.reads (opened span.opens (from ++ span.path) v))

-- these are the lines of files one after another
abbrev pub AreAsked : List (List ℕ) → FilesView → List Span → FilesView → Type 0
AreAsked from u [] v = v ≡ u
AreAsked from u (span ∷ spans) v = (span.first ≡ u.all.next) × AreAsked from (plan_span from span u) spans v

-- the lines of files were added to those before
pub record Asks (from : List (List ℕ)) (u : FilesView) (before : List Span) (v : FilesView) (after : List Span) : Type 0 where
  pub more : List Span
  pub is : after ≡ before ++ more
  pub lines : AreAsked from u more v

-- the file whose lines these are is read on, and it may end
pub record ReadsOn (span : Span) (u : FilesView) (before : List Span) (v : FilesView) (after : List Span) : Type 0 where
  pub count : ℕ
  pub over : Bool
  pub is : after ≡ before ++ (record span { reads = count; ends = over }) ∷ []
  pub lines : v ≡ ended over (read_all count u)

-- the lines of the files of a script, and these files
pub record ReadsView : Type 0 where
  pub files : FilesView
  pub spans : List Span

-- ---- a copy from the server that is under way

-- The path that is copied, and whether something wasn't copied. The lines of files, and the files of the script that was sent. Whether the target took what
-- came so far of the file that goes on.
pub record DownloadView : Type 0 where
  pub from : List (List ℕ)
  pub wrong : Bool
  pub files : FilesView
  pub spans : List Span
  pub taken : Bool

-- nothing was asked for
abbrev pub at_start : List (List ℕ) → DownloadView
at_start from = record { from = from; wrong = false; files = record { all = record { lines = []; next = 1 }; lane = 15; at = None }; spans = []; taken = false }

-- the lines of files without those that were sent
abbrev pub sent : FilesView → FilesView
sent v = record v { all = record { lines = []; next = v.all.next } }

-- what was answered of files, and what else the target took
pub record TakesAnswers (answers : List ℕ) (u v : DownloadView) (more : List Took) : Type 0 where
  pub of_files : List Took
  pub others : List Took
  pub is : more ≡ of_files ++ others
  pub took : SpansTook answers u.spans u.taken v.taken of_files
  pub quiet : AreOthers others
  pub from : v.from ≡ u.from
  pub files : v.files ≡ u.files
  pub none : v.spans ≡ []

-- files were added to the lines that wait
pub record AddsFiles (u v : DownloadView) : Type 0 where
  pub same : v ≡ record u { wrong = v.wrong; files = v.files; spans = v.spans }
  pub asks : Asks u.from u.files u.spans v.files v.spans

-- There is none; it is one of names; or it has lines of files.
pub data Sends (u v : DownloadView) (script : Option (List ScriptLine)) : Type 0 where
  none : script ≡ None → Sends u v script
  names : (lines : List ScriptLine) → script ≡ Some lines → All IsNameLine lines → v.files ≡ u.files → v.spans ≡ u.spans → Sends u v script
  files : (planned : FilesView) → script ≡ Some planned.all.lines → Asks u.from u.files u.spans planned v.spans → v.files ≡ sent planned → Sends u v script

-- the next script, and what else it leaves
pub record SendsNext (u v : DownloadView) (script : Option (List ScriptLine)) : Type 0 where
  pub from : v.from ≡ u.from
  pub taken : v.taken ≡ u.taken
  pub sends : Sends u v script

-- By these answers to the script before a target took so much more, and this is the next script.
pub record NextIs (answers : List ℕ) (script : Option (List ScriptLine)) (u v : DownloadView) (more : List Took) : Type 0 where
  pub between : DownloadView
  pub takes : TakesAnswers answers u between more
  pub sends : SendsNext between v script
