-- What a copy to the server promises.
use Rattle.std.specs.Prelude.{◌≡◌, ℕ, List, ◌++◌, Contains, Option, Some, None}
use Rattle.world_model.specs.declared.answer.Answer.TheVariants.{Refused}
use Rattle.world_model.specs.declared.answer.Fault.{Fault}
use Rattle.world_model.specs.declared.entry.Entry.{Entry}
use Rattle.world_model.specs.History.{History}
use Rattle.world_model.specs.Lawful.{Lawful}
use Rattle.world_model.specs.Once.{Once}
use Rattle.file_trees.specs.declared.item.Node.TheVariants as nodes
use Rattle.file_trees.specs.declared.item.Cut.{Cut}
use Rattle.file_trees.specs.declared.item.Piece.TheVariants as pieces
use Rattle.file_trees.specs.declared.tree.Given.{Given}
use Rattle.file_trees.specs.declared.tree.Given.TheVariants as gives
use Rattle.file_trees.specs.Files.{File, files_in}
use Rattle.session_words.specs.declared.settings.Settings.{Settings}
use Rattle.session_words.specs.Words.{IsCommand}
use Rattle.session_setup.specs.Origins.{modes_of, origin_of}
use Rattle.lane_session.specs.Statuses.{IsAnswered}
use Rattle.copy_scripts.specs.Uploads.{AnyCant}
use Rattle.law_copies.specs.Copied.{Copied, laid}
use Rattle.law_copies.specs.Lasting.{CopyStays}

-- what holds of what a tree told, if it tells
abbrev pub IfTold : Option (List Given) → (List Given → Type 0) → Type 0
IfTold None P = Unit {0}
IfTold (Some given) P = P given

-- Each file that came whole was copied to its place below this path. In one lane, without anything in between, it was opened, and made if it wasn't
-- there. It was cut to no bytes, written from its beginning to its end, and closed. Each of these operations succeeded.
abbrev pub AllCopied : List (List ℕ) → List Given → List Entry → Type 0
AllCopied to given h = (file : File) → Contains (files_in given) file → Copied h (to ++ file.path) (laid file.pieces)

-- Each file that was given came whole, and nothing else was given than folders, files and links.
pub record CameWhole (given : List Given) : Type 0 where
  pub readable : (path : List (List ℕ)) (error : ℕ) → Contains given (gives.Item (record { path = path; node = nodes.Unread error })) → ⊥
  pub kinds : (path : List (List ℕ)) → Contains given (gives.Item (record { path = path; node = nodes.Other })) → ⊥
  pub cuts : (cut : Cut) → Contains given (gives.Piece (pieces.Cut cut)) → ⊥

-- Each byte of these files is in the file to which its path led, on stable storage from the close on. That is so unless something touched it since it was
-- written. The server executes calls as RFC 1813 says, and none anew once its reply came.
abbrev pub AllStay : Settings → List (List ℕ) → List Given → List Entry → Type 0
AllStay s to given h = (t : History) → t.entries ≡ h → Lawful t → Once t.entries → (file : File) → Contains (files_in given) file
    → CopyStays (modes_of s) (origin_of s.export) t (to ++ file.path) (laid file.pieces)

-- What a copy that ends with 0 promises of what the tree gave, and of the history.
pub record Copies (s : Settings) (to : List (List ℕ)) (given : List Given) (h : List Entry) : Type 0 where
  pub whole : CameWhole given
  pub copied : AllCopied to given h
  pub stay : AllStay s to given h

-- Why not all was copied: something that the tree gave can't be copied below this path, or an operation was refused.
pub data Missed (to : List (List ℕ)) (given : List Given) (h : List Entry) : Type 0 where
  unfit : AnyCant to given → Missed to given h
  refused : (fault : Fault) → IsAnswered h (Refused fault) → Missed to given h

-- what a copy promises, by the settings that words give
pub record CopiesBy (words : List (List ℕ)) (to : List (List ℕ)) (given : List Given) (h : List Entry) : Type 0 where
  pub settings : Settings
  pub found : IsCommand words settings
  pub copies : Copies settings to given h
