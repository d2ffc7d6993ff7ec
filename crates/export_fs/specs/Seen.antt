-- The export as a server (RFC 1813, sections 1.7 and 4.8): its objects by their file handles.
use Rattle.std.specs.Prelude.{ℕ, List, map, Option, Some, None, option_map, slice_get, if◌then◌else◌}
use Rattle.std.specs.Str.{bytes_eq}
use Rattle.world_model.specs.Server.{Listed, Bytes, Entries, Text, Object, Server}
use Rattle.world_model.specs.Server.{Holds as Held}
use Rattle.export_fs.specs.declared.node.Holds.{Holds}
use Rattle.export_fs.specs.declared.node.Holds.TheVariants.{File, Directory, Link}
use Rattle.export_fs.specs.declared.node.Node.{Node}
use Rattle.export_fs.specs.Held.{Row}
use Rattle.export_fs.specs.View.{View}
use Rattle.export_fs.specs.Parts.{place_of, handle_of, attr_of, verifier}

abbrev pub entry_of : Row → Listed
entry_of row = record { name = row.name; object = handle_of row.place; cookie = row.cookie }

abbrev pub held_of : Holds → Held
held_of (File content) = Bytes content.bytes content.stable
held_of (Directory listing) = Entries (map entry_of listing.rows)
held_of (Link text) = Text text

abbrev pub object_of : ℕ → Node → Object
object_of place node = record { attr = attr_of place node; gone = node.gone; holds = held_of node.holds }

-- the object at a place, also if it is gone
abbrev pub seen_at : List Node → ℕ → Option Object
seen_at nodes place = option_map (object_of place) (slice_get nodes place)

-- Its file handle is the one that names the place. Other lists of numbers are no file handles.
abbrev pub seen_by : List Node → List ℕ → Option ℕ → Option Object
seen_by nodes h None = None
seen_by nodes h (Some place) = if bytes_eq h (handle_of place) then seen_at nodes place else None

abbrev pub server_of : View → Server
server_of view = record { verf = verifier view; object = λ h. seen_by view.nodes h (place_of h) }
