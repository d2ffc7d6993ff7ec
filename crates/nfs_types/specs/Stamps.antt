-- Stamps tell whether a file changed: its length, when its bytes last changed and when its attributes did (RFC 1813,
-- section 2.5, wcc_attr).
use Rattle.std.specs.Prelude.{Bool, ◌==◌, ◌&&◌}
use Rattle.nfs_types.specs.declared.time.Time.{Time}
use Rattle.nfs_types.specs.declared.attr.Attr.{Attr}
use Rattle.nfs_types.specs.declared.wcc.Stamp.{Stamp}

-- whether two times are equal
abbrev pub same_time : Time → Time → Bool
same_time s t = (s.seconds == t.seconds) && (s.nanos == t.nanos)

-- whether two stamps are equal
abbrev pub same_stamp : Stamp → Stamp → Bool
same_stamp s t = (s.size == t.size) && same_time s.mtime t.mtime && same_time s.ctime t.ctime

-- the stamp that attributes hold
abbrev pub stamp_of : Attr → Stamp
stamp_of attr = record { size = attr.size; mtime = attr.mtime; ctime = attr.ctime }
