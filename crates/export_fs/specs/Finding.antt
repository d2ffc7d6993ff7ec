-- Objects by their paths, and the sizes of files.
use Rattle.std.specs.Prelude.{ℕ, List, length, Option, Some, None, ◌==◌, if◌then◌else◌}
use Rattle.export_fs.specs.View.{View}
use Rattle.export_fs.specs.Parts.{object, kind, bytes_in}
use Rattle.export_fs.specs.Placing.{walked}
use Rattle.export_fs.specs.Answer.{found_handle}

-- the file handle of the object to which a path leads from the root
abbrev pub found : View → List (List ℕ) → Option (List ℕ)
found view path = found_handle (walked view.nodes (Some 0) path)

-- how many bytes the file under a file handle has; None if it is no file, or isn't there
abbrev pub file_size : View → List ℕ → Option ℕ
file_size view file = if kind view.nodes file == 1 then Some (length (bytes_in (object view.nodes file))) else None
