-- What the objects of the export hold, those that are gone too.
use Rattle.std.specs.Prelude.{ℕ, Bool, false, List, [], Option, Some, None}
use Rattle.export_fs.specs.declared.node.Holds.{Holds}
use Rattle.export_fs.specs.declared.node.Holds.TheVariants.{File, Directory, Link}
use Rattle.export_fs.specs.declared.node.Node.{Node}

-- the bytes that a restart leaves: those of a file, else none
abbrev pub stable_of : Holds → List ℕ
stable_of (File content) = content.stable
stable_of (Directory listing) = []
stable_of (Link text) = []

abbrev pub stable_in : Option Node → List ℕ
stable_in None = []
stable_in (Some node) = stable_of node.holds

-- whether it lost its last name
abbrev pub is_gone_in : Option Node → Bool
is_gone_in None = false
is_gone_in (Some node) = node.gone
