-- What a restart makes of the export, and what becomes stable by itself (RFC 1813, section 4.8).
use Rattle.std.specs.Prelude.{◌+◌, ◌&&◌, not, ℕ, Bool, false, List, [], ◌∷◌, nat_le, nat_lt, count_by, if◌then◌else◌}
use Rattle.std.specs.Str.{bytes_eq}
use Rattle.export_fs.specs.declared.node.Holds.{Holds}
use Rattle.export_fs.specs.declared.node.Holds.TheVariants.{File, Directory, Link}
use Rattle.export_fs.specs.declared.node.Node.{Node}
use Rattle.export_fs.specs.View.{View}
use Rattle.export_fs.specs.Parts.{last_number, place_of}
use Rattle.export_fs.specs.After.{changed_at}
use Rattle.export_fs.specs.Changes.{committed}

-- a file some of whose bytes a restart changes
abbrev pub is_unsteady : Node → Bool
is_unsteady node = elim node.holds [ File content ↦ not (bytes_eq content.bytes content.stable) | Directory listing ↦ false | Link text ↦ false ]

abbrev pub steady : Holds → Holds
steady (File content) = File (record { bytes = content.stable; stable = content.stable })
steady (Directory listing) = Directory listing
steady (Link text) = Link text

-- such a file is left with its stable bytes, as a change of that number
abbrev pub restarted : ℕ → Node → Node
restarted number node = record node { mtime = number; ctime = number; holds = steady node.holds }

-- the objects after a restart: each such file in order of making takes the next number
abbrev pub all_restarted : ℕ → List Node → List Node
all_restarted counter [] = []
all_restarted counter (node ∷ nodes) =
    if is_unsteady node then restarted (counter + 1) node ∷ all_restarted (counter + 1) nodes else node ∷ all_restarted counter nodes

-- how many numbers a restart takes
abbrev pub numbers_taken : List Node → ℕ
numbers_taken nodes = count_by is_unsteady nodes

-- there are numbers left for it, and it can be counted
abbrev pub may_restart : View → Bool
may_restart view = nat_lt view.reboots last_number && nat_le (view.counter + numbers_taken view.nodes) last_number

abbrev pub after_restart : View → View
after_restart view = record { nodes = all_restarted view.counter view.nodes; counter = view.counter + numbers_taken view.nodes; reboots = view.reboots + 1 }

-- a range of a file becomes stable, as by a COMMIT of it
abbrev pub after_flush : View → List ℕ → ℕ → ℕ → View
after_flush view file start count = record view { nodes = changed_at (committed start count) (place_of file) view.nodes }
