-- How a call changes an object (RFC 1813, section 3.3). A change has a number, which becomes the seconds of the times of
-- each object that it changes.
use Rattle.std.specs.Prelude.{◌+◌, ◌-◌, ℕ, true, false, min, List, [], Option, Some, None, slice_get, slice_set, nat_le, ◌==◌, if◌then◌else◌, unwrap_or}
use Rattle.nfs_types.specs.declared.set_attr.SetAttr.{SetAttr}
use Rattle.world_model.specs.Bytes.{resized, put_at, committed_part}
use Rattle.world_model.specs.FileService.{steady_after}
use Rattle.world_model.specs.NameService.{new_bytes}
use Rattle.export_fs.specs.declared.node.Holds.{Holds}
use Rattle.export_fs.specs.declared.node.Holds.TheVariants.{File, Directory, Link}
use Rattle.export_fs.specs.declared.node.Node.{Node}
use Rattle.export_fs.specs.Held.{Content}
use Rattle.export_fs.specs.Parts.{kind_of}
use Rattle.export_fs.specs.Names.{with_row, without_row}

-- ---- one object of many

abbrev pub put_node : List Node → ℕ → (Node → Node) → Option Node → List Node
put_node nodes place change None = nodes
put_node nodes place change (Some node) = slice_set nodes place (change node)

-- the objects, with the one at the place changed
abbrev pub changed : (Node → Node) → ℕ → List Node → List Node
changed change place nodes = put_node nodes place change (slice_get nodes place)

-- ---- new objects

-- an object with what a call sets, and with these bits of permission if it sets none
abbrev pub made : ℕ → ℕ → ℕ → SetAttr → Holds → Node
made mode nlink number set holds = record {
  mode = unwrap_or set.mode mode;
  nlink = nlink;
  uid = unwrap_or set.uid 0;
  gid = unwrap_or set.gid 0;
  atime = number;
  mtime = number;
  ctime = number;
  gone = false;
  holds = holds;
}

abbrev pub file_of : Content → Holds
file_of content = File content

-- a file of mode 0644, empty or with zeros up to the size that is set
abbrev pub new_file : ℕ → SetAttr → Node
new_file number set = made 420 1 number set (file_of (record { bytes = new_bytes set.size; stable = new_bytes set.size }))

-- a directory of mode 0755 without names
abbrev pub new_dir : ℕ → ℕ → SetAttr → Node
new_dir parent number set = made 493 2 number set (Directory (record { parent = parent; last = 0; rows = [] }))

-- a symbolic link of mode 0777
abbrev pub new_link : List ℕ → ℕ → SetAttr → Node
new_link text number set = made 511 1 number set (Link text)

-- ---- files

-- SETATTR, section 3.3.2: a size cuts the bytes or fills them with zeros, the stable ones too
abbrev pub sized : ℕ → Holds → Holds
sized size (File content) = File (record { bytes = resized size content.bytes; stable = resized size content.stable })
sized size (Directory listing) = Directory listing
sized size (Link text) = Link text

abbrev pub with_size : Option ℕ → Holds → Holds
with_size None holds = holds
with_size (Some size) holds = sized size holds

abbrev pub with_set : ℕ → SetAttr → Node → Node
with_set number set node = record node {
  mode = unwrap_or set.mode node.mode;
  uid = unwrap_or set.uid node.uid;
  gid = unwrap_or set.gid node.gid;
  mtime = number;
  ctime = number;
  holds = with_size set.size node.holds;
}

-- WRITE, section 3.3.7: the bytes are put into those of now, and into the stable ones unless they may be lost
abbrev pub with_bytes : ℕ → ℕ → List ℕ → Holds → Holds
with_bytes offset how bytes (File content) = File (record { bytes = put_at offset bytes content.bytes; stable = steady_after how offset bytes content.stable })
with_bytes offset how bytes (Directory listing) = Directory listing
with_bytes offset how bytes (Link text) = Link text

abbrev pub written : ℕ → ℕ → ℕ → List ℕ → Node → Node
written number offset how bytes node = record node { mtime = number; ctime = number; holds = with_bytes offset how bytes node.holds }

-- COMMIT, section 3.3.21: the stable bytes take those of now from the offset, so many, or all to the end
abbrev pub with_stable : ℕ → ℕ → Holds → Holds
with_stable offset count (File content) = File (record content { stable = put_at offset (committed_part offset count content.bytes) content.stable })
with_stable offset count (Directory listing) = Directory listing
with_stable offset count (Link text) = Link text

abbrev pub committed : ℕ → ℕ → Node → Node
committed offset count node = record node { holds = with_stable offset count node.holds }

-- ---- names

-- a name enters a directory, sections 3.3.8 to 3.3.10, 3.3.14 and 3.3.15
abbrev pub with_name : List ℕ → ℕ → Holds → Holds
with_name name place (File content) = File content
with_name name place (Directory listing) = Directory (with_row name place listing)
with_name name place (Link text) = Link text

abbrev pub entered : ℕ → List ℕ → ℕ → Node → Node
entered number name place node = record node { mtime = number; ctime = number; holds = with_name name place node.holds }

-- a name leaves a directory, sections 3.3.12 to 3.3.14
abbrev pub without_name : List ℕ → Holds → Holds
without_name name (File content) = File content
without_name name (Directory listing) = Directory (without_row name listing)
without_name name (Link text) = Link text

abbrev pub left : ℕ → List ℕ → Node → Node
left number name node = record node { mtime = number; ctime = number; holds = without_name name node.holds }

-- an object loses a name: a directory is gone then, and another object if that was its last name
abbrev pub with_fewer : Node → Node
with_fewer node = record node { nlink = node.nlink - 1; gone = nat_le node.nlink 1 }

abbrev pub unnamed : Node → Node
unnamed node = if kind_of node.holds == 2 then record node { gone = true } else with_fewer node

-- if names are left, its ctime changes
abbrev pub with_ctime : ℕ → Node → Node
with_ctime number node = if node.gone then node else record node { ctime = number }

abbrev pub removed : ℕ → Node → Node
removed number node = with_ctime number (unnamed node)

-- an object gets one more name, section 3.3.15; the count ends at the greatest number that it can show
abbrev pub linked : ℕ → Node → Node
linked number node = record node { nlink = min (node.nlink + 1) 4294967295; ctime = number }

-- a directory moves into another one
abbrev pub with_parent : ℕ → Holds → Holds
with_parent parent (File content) = File content
with_parent parent (Directory listing) = Directory (record listing { parent = parent })
with_parent parent (Link text) = Link text

abbrev pub moved : ℕ → Node → Node
moved parent node = record node { holds = with_parent parent node.holds }
