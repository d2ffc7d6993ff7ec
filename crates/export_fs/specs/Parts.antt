-- What file handles name, and what replies show of an object (RFC 1813, sections 2.5 and 2.6).
use Rattle.std.specs.Prelude.{◌+◌, ◌-◌, ◌||◌, ℕ, List, [], length, Option, Some, None, option_map, slice_get, nat_lt, ◌==◌, if◌then◌else◌}
use Rattle.byteorder.specs.Endian.{big_number}
use Rattle.xdr_codec.specs.Spelling.{u64_bytes}
use Rattle.nfs_types.specs.declared.attr.Attr.{Attr}
use Rattle.nfs_types.specs.declared.time.Time.{Time}
use Rattle.nfs_types.specs.declared.verf.Verf.{Verf}
use Rattle.nfs_types.specs.declared.wcc.Wcc.{Wcc}
use Rattle.nfs_types.specs.Stamps.{stamp_of}
use Rattle.export_fs.specs.declared.node.Holds.{Holds}
use Rattle.export_fs.specs.declared.node.Holds.TheVariants.{File, Directory, Link}
use Rattle.export_fs.specs.declared.node.Node.{Node}
use Rattle.export_fs.specs.Held.{Row}
use Rattle.export_fs.specs.View.{View}

-- the last number that a change can have, and the last count of restarts
abbrev pub last_number : ℕ
last_number = 4294967295

-- the most bytes of a file
abbrev pub most_size : ℕ
most_size = 16777216

-- ---- file handles

-- the file handle of the object at a place: its number as 8 bytes, the highest first
abbrev pub handle_of : ℕ → List ℕ
handle_of place = u64_bytes (place + 1)

-- The place of a number. Each object took a number of a change, so none has a number above the last of those.
abbrev pub place_of_number : ℕ → Option ℕ
place_of_number number = if (number == 0) || nat_lt last_number number then None else Some (number - 1)

-- the place that a file handle names
abbrev pub place_of : List ℕ → Option ℕ
place_of h = if length h == 8 then place_of_number (big_number 8 h) else None

-- ---- objects

-- an object, unless it is gone
abbrev pub not_gone : Option Node → Option Node
not_gone None = None
not_gone (Some node) = if node.gone then None else Some node

-- the object at a place, if it is there
abbrev pub live : List Node → ℕ → Option Node
live nodes place = not_gone (slice_get nodes place)

abbrev pub at_place : List Node → Option ℕ → Option Node
at_place nodes None = None
at_place nodes (Some place) = live nodes place

-- the object under a file handle, if it is there
abbrev pub object : List Node → List ℕ → Option Node
object nodes h = at_place nodes (place_of h)

-- the kind of an object: 1 a file, 2 a directory, 5 a symbolic link (RFC 1813, section 2.5, ftype3)
abbrev pub kind_of : Holds → ℕ
kind_of (File content) = 1
kind_of (Directory listing) = 2
kind_of (Link text) = 5

-- the length of an object: that of a file's bytes and of a link's text, and 0 of a directory
abbrev pub size_of : Holds → ℕ
size_of (File content) = length content.bytes
size_of (Directory listing) = 0
size_of (Link text) = length text

abbrev pub kind_in : Option Node → ℕ
kind_in None = 0
kind_in (Some node) = kind_of node.holds

-- the kind of the object at a place, and under a file handle; 0 if there is none
abbrev pub kind_at : List Node → Option ℕ → ℕ
kind_at nodes place = kind_in (at_place nodes place)

abbrev pub kind : List Node → List ℕ → ℕ
kind nodes h = kind_at nodes (place_of h)

-- the bytes that an object holds now: those of a file, else none
abbrev pub bytes_of : Holds → List ℕ
bytes_of (File content) = content.bytes
bytes_of (Directory listing) = []
bytes_of (Link text) = []

abbrev pub bytes_in : Option Node → List ℕ
bytes_in None = []
bytes_in (Some node) = bytes_of node.holds

-- the text of a link, if the object is one
abbrev pub text_of : Holds → Option (List ℕ)
text_of (File content) = None
text_of (Directory listing) = None
text_of (Link text) = Some text

abbrev pub text_in : Option Node → Option (List ℕ)
text_in None = None
text_in (Some node) = text_of node.holds

-- the names of a directory, and none of another object
abbrev pub rows_of : Holds → List Row
rows_of (File content) = []
rows_of (Directory listing) = listing.rows
rows_of (Link text) = []

abbrev pub rows_in : Option Node → List Row
rows_in None = []
rows_in (Some node) = rows_of node.holds

-- the last cookie that a directory gave
abbrev pub last_of : Holds → ℕ
last_of (File content) = 0
last_of (Directory listing) = listing.last
last_of (Link text) = 0

abbrev pub last_in : Option Node → ℕ
last_in None = 0
last_in (Some node) = last_of node.holds

-- the place of the directory above a directory
abbrev pub parent_of : Holds → ℕ
parent_of (File content) = 0
parent_of (Directory listing) = listing.parent
parent_of (Link text) = 0

abbrev pub parent_in : Option Node → ℕ
parent_in None = 0
parent_in (Some node) = parent_of node.holds

-- ---- what replies show

-- the number of a change as a time
abbrev pub second : ℕ → Time
second number = record { seconds = number; nanos = 0 }

-- the attributes of the object at a place (RFC 1813, section 2.5, fattr3)
abbrev pub attr_of : ℕ → Node → Attr
attr_of place node = record {
  kind = kind_of node.holds;
  mode = node.mode;
  nlink = node.nlink;
  uid = node.uid;
  gid = node.gid;
  size = size_of node.holds;
  used = size_of node.holds;
  rdev_major = 0;
  rdev_minor = 0;
  fsid = 1;
  fileid = place + 1;
  atime = second node.atime;
  mtime = second node.mtime;
  ctime = second node.ctime;
}

abbrev pub attr_at : List Node → Option ℕ → Option Attr
attr_at nodes None = None
attr_at nodes (Some place) = option_map (attr_of place) (live nodes place)

-- the attributes of the object under a file handle, if it is there
abbrev pub attr : List Node → List ℕ → Option Attr
attr nodes h = attr_at nodes (place_of h)

-- what a reply to a change shows of an object before and after (RFC 1813, section 2.6, wcc_data)
abbrev pub wcc : List Node → List Node → List ℕ → Wcc
wcc old new h = record { before = option_map stamp_of (attr old h); after = attr new h }

-- the write verifier: how often the export restarted, and 1 more, as 8 bytes (RFC 1813, section 4.8)
abbrev pub verifier : View → Verf
verifier view = record { 0 = u64_bytes (view.reboots + 1) }
