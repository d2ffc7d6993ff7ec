-- A copy to the server that is under way.
use Rattle.std.specs.Prelude.{◌≡◌, ◌≢◌, ◌⊎◌, ◌==◌, ◌++◌, ℕ, Bool, true, false, List, [], ◌∷◌, All, Option, Some, None}
use Rattle.std.specs.List.{list_any}
use Rattle.nfs_script.specs.declared.script.ScriptLine.{ScriptLine}
use Rattle.nfs_script.specs.Asked.{IsNamed, IsTarget}
use Rattle.file_trees.specs.declared.item.Node.{Node}
use Rattle.file_trees.specs.declared.item.Node.TheVariants as nodes
use Rattle.file_trees.specs.declared.item.Piece.{Piece}
use Rattle.file_trees.specs.declared.item.Piece.TheVariants as pieces
use Rattle.file_trees.specs.declared.tree.Given.{Given}
use Rattle.file_trees.specs.declared.tree.Given.TheVariants as gives
use Rattle.file_trees.specs.Giving.{Gives}
use Rattle.copy_plan.specs.Files.{FilesView}
use Rattle.copy_plan.specs.Lines.{IsNameLine, LinesView}
use Rattle.copy_plan.specs.Trees.{no_files, plan_node, plan_of}
use Rattle.copy_scripts.specs.declared.upload.Sent.{Sent}
use Rattle.copy_scripts.specs.declared.upload.Sent.TheVariants as sents

-- where it goes, the lines that wait, which script was asked for last, and whether something wasn't copied
pub record UploadView : Type 0 where
  pub to : List (List ℕ)
  pub names : LinesView
  pub files : FilesView
  pub sent : Sent
  pub wrong : Bool

-- nothing was asked for
abbrev pub at_start : List (List ℕ) → UploadView
at_start to = record { to = to; names = record { lines = []; next = 1 }; files = no_files; sent = sents.Names; wrong = false }

-- the lines of files without those that were sent
abbrev pub taken : FilesView → FilesView
taken v = record v { all = record { lines = []; next = v.all.next } }

-- ---- what a tree gives

-- a tree gave so much more, and so is what was made of it
pub record Gave (old new : Option (List Given)) (P : List Given → Type 0) : Type 0 where
  pub more : List Given
  pub told : Gives old new more
  pub so : P more

-- it can be copied
abbrev pub IsWholeNode : Node → Type 0
IsWholeNode nodes.Folder = Unit {0}
IsWholeNode nodes.File = Unit {0}
IsWholeNode (nodes.Link target) = Unit {0}
IsWholeNode nodes.Other = ⊥
IsWholeNode (nodes.Unread error) = ⊥

-- so far the file came whole
abbrev pub IsWholePiece : Piece → Type 0
IsWholePiece (pieces.Bytes bytes) = Unit {0}
IsWholePiece pieces.End = Unit {0}
IsWholePiece (pieces.Cut cut) = ⊥

abbrev pub IsWhole : Given → Type 0
IsWhole (gives.Item item) = IsWholeNode item.node
IsWhole (gives.Piece piece) = IsWholePiece piece

abbrev pub AreWhole : List Given → Type 0
AreWhole [] = Unit {0}
AreWhole (g ∷ given) = IsWhole g × AreWhole given

-- a link can lead to 1 to 1,024 bytes, none of which is zero
abbrev pub MayLink : List ℕ → Type 0
MayLink target = IsTarget target × (list_any (λ b. b == 0) target ≡ false)

-- What stands in a tree can't be copied to this path: it can't be read, or it is neither file, folder nor link; or the path has no name, or more than 1,024
-- bytes; or a link leads where none can.
pub data CantStand (path : List (List ℕ)) (node : Node) : Type 0 where
  unread : (error : ℕ) → node ≡ nodes.Unread error → CantStand path node
  kind : node ≡ nodes.Other → CantStand path node
  place : (IsNamed path → ⊥) → CantStand path node
  link : (target : List ℕ) → node ≡ nodes.Link target → (MayLink target → ⊥) → CantStand path node

-- What a tree gave can't be copied below this path. A file isn't copied if it can't be read to its end, or changed while it was read.
abbrev pub CantCopy : List (List ℕ) → Given → Type 0
CantCopy to (gives.Item item) = CantStand (to ++ item.path) item.node
CantCopy to (gives.Piece (pieces.Bytes bytes)) = ⊥
CantCopy to (gives.Piece pieces.End) = ⊥
CantCopy to (gives.Piece (pieces.Cut cut)) = Unit {0}

-- something of what a tree gave can't
abbrev pub AnyCant : List (List ℕ) → List Given → Type 0
AnyCant to [] = ⊥
AnyCant to (g ∷ given) = CantCopy to g ⊎ AnyCant to given

-- ---- what is made of it

-- It was planned, and nothing went wrong before.
pub record Planned (given : List Given) (old new : UploadView) : Type 0 where
  pub before : old.wrong ≡ false
  pub whole : AreWhole given
  pub files : new.files ≡ plan_of old.to given old.files

-- What was given was planned, or something went wrong: before, or as something of it can't be copied.
pub record Takes (given : List Given) (old new : UploadView) : Type 0 where
  pub to : new.to ≡ old.to
  pub sent : new.sent ≡ old.sent
  pub right : new.wrong ≡ false → Planned given old new
  pub amiss : new.wrong ≡ true → (old.wrong ≡ true) ⊎ AnyCant old.to given

pub record PlannedNode (path : List (List ℕ)) (node : Node) (old new : UploadView) : Type 0 where
  pub before : old.wrong ≡ false
  pub whole : IsWholeNode node
  pub files : new.files ≡ plan_node node path old.files

-- The same of what stands at a path, and is to go to this one.
pub record TakesNode (path : List (List ℕ)) (node : Node) (old new : UploadView) : Type 0 where
  pub to : new.to ≡ old.to
  pub sent : new.sent ≡ old.sent
  pub right : new.wrong ≡ false → PlannedNode path node old new
  pub amiss : new.wrong ≡ true → (old.wrong ≡ true) ⊎ CantStand path node

-- ---- what is made of the answers

-- nothing else changed than that something went wrong
pub record OnlyWrong (old new : UploadView) : Type 0 where
  pub same : new ≡ record old { wrong = new.wrong }
  pub right : new.wrong ≡ false → old.wrong ≡ false

-- A script of files had the status 0, or something went wrong. Nothing does at the status 0.
pub record Judges (status : ℕ) (old new : UploadView) : Type 0 where
  pub same : new ≡ record old { wrong = new.wrong }
  pub right : new.wrong ≡ false → (old.wrong ≡ false) × (old.sent ≡ sents.Files → status ≡ 0)
  pub amiss : new.wrong ≡ true → (old.wrong ≡ true) ⊎ (status ≢ 0)

-- ---- the next script

-- No line waits. Or the script is one of names; or it has all lines of files that wait.
pub data Sends (planned : FilesView) (old new : UploadView) (script : Option (List ScriptLine)) : Type 0 where
  none : script ≡ None → planned.all.lines ≡ [] → new.files ≡ planned → new.sent ≡ old.sent → Sends planned old new script
  names : (lines : List ScriptLine) → script ≡ Some lines → All IsNameLine lines → new.files ≡ planned → new.sent ≡ sents.Names → Sends planned old new script
  files : script ≡ Some planned.all.lines → new.files ≡ taken planned → new.sent ≡ sents.Files → Sends planned old new script

-- Nothing went wrong: the script before had the status 0 if it was one of files, what was given was planned, and it is sent or waits.
pub record Right (status : ℕ) (script : Option (List ScriptLine)) (given : List Given) (old new : UploadView) : Type 0 where
  pub before : old.wrong ≡ false
  pub answered : old.sent ≡ sents.Files → status ≡ 0
  pub whole : AreWhole given
  pub sends : Sends (plan_of old.to given old.files) old new script

-- Something went wrong: before, or in the script before, or as something that was given can't be copied.
pub data Amiss (status : ℕ) (given : List Given) (old : UploadView) : Type 0 where
  earlier : old.wrong ≡ true → Amiss status given old
  refused : status ≢ 0 → Amiss status given old
  unfit : AnyCant old.to given → Amiss status given old

-- After a script with that status, and with what was given since, this is the next script; or something went wrong.
pub record NextIs (status : ℕ) (script : Option (List ScriptLine)) (given : List Given) (old new : UploadView) : Type 0 where
  pub to : new.to ≡ old.to
  pub right : new.wrong ≡ false → Right status script given old new
  pub amiss : new.wrong ≡ true → Amiss status given old
