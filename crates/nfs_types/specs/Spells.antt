-- Which bytes spell a field of NFS (RFC 1813, section 2.5). Padding may have any value.
use Rattle.std.specs.Prelude.{ℕ, List, Option}
use Rattle.xdr_codec.specs.Spells.{◌⨾◌, SpellsU32, SpellsU64, SpellsFixed, SpellsOpaque, SpellsOpt}
use Rattle.nfs_types.specs.Names.{IsName}
use Rattle.nfs_types.specs.declared.verf.Verf.{Verf}
use Rattle.nfs_types.specs.declared.time.Time.{Time}
use Rattle.nfs_types.specs.declared.attr.Attr.{Attr}
use Rattle.nfs_types.specs.declared.wcc.Stamp.{Stamp}
use Rattle.nfs_types.specs.declared.wcc.Wcc.{Wcc}
use Rattle.nfs_types.specs.declared.set_attr.SetTime.{SetTime}
use Rattle.nfs_types.specs.declared.set_attr.SetTime.TheVariants.{Keep, Server, Client}
use Rattle.nfs_types.specs.declared.set_attr.SetAttr.{SetAttr}

-- nfs_fh3: an opaque of at most 64 bytes
abbrev pub SpellsHandle : List ℕ → List ℕ → Type 0
SpellsHandle v = SpellsOpaque 64 v

-- filename3: a string that is a name
pub record SpellsName (v bytes : List ℕ) : Type 0 where
  pub rule : IsName v
  pub is : SpellsOpaque 255 v bytes

-- a fixed opaque of 8 bytes
abbrev pub SpellsVerf : Verf → List ℕ → Type 0
SpellsVerf v = SpellsFixed 8 v.0

-- nfstime3
abbrev pub SpellsTime : Time → List ℕ → Type 0
SpellsTime v = SpellsU32 v.seconds ⨾ SpellsU32 v.nanos

-- fattr3
abbrev pub SpellsAttr : Attr → List ℕ → Type 0
SpellsAttr v =
    SpellsU32 v.kind ⨾ SpellsU32 v.mode ⨾ SpellsU32 v.nlink ⨾ SpellsU32 v.uid ⨾ SpellsU32 v.gid ⨾ SpellsU64 v.size ⨾ SpellsU64 v.used
    ⨾ SpellsU32 v.rdev_major ⨾ SpellsU32 v.rdev_minor ⨾ SpellsU64 v.fsid ⨾ SpellsU64 v.fileid ⨾ SpellsTime v.atime ⨾ SpellsTime v.mtime ⨾ SpellsTime v.ctime

-- post_op_attr
abbrev pub SpellsOptAttr : Option Attr → List ℕ → Type 0
SpellsOptAttr v = SpellsOpt SpellsAttr v

-- wcc_attr
abbrev pub SpellsStamp : Stamp → List ℕ → Type 0
SpellsStamp v = SpellsU64 v.size ⨾ SpellsTime v.mtime ⨾ SpellsTime v.ctime

-- wcc_data
abbrev pub SpellsWcc : Wcc → List ℕ → Type 0
SpellsWcc v = SpellsOpt SpellsStamp v.before ⨾ SpellsOptAttr v.after

-- set_atime and set_mtime
abbrev pub SpellsSetTime : SetTime → List ℕ → Type 0
SpellsSetTime Keep = SpellsU32 0
SpellsSetTime Server = SpellsU32 1
SpellsSetTime (Client time) = SpellsU32 2 ⨾ SpellsTime time

-- sattr3
abbrev pub SpellsSetAttr : SetAttr → List ℕ → Type 0
SpellsSetAttr v =
    SpellsOpt SpellsU32 v.mode ⨾ SpellsOpt SpellsU32 v.uid ⨾ SpellsOpt SpellsU32 v.gid ⨾ SpellsOpt SpellsU64 v.size
    ⨾ SpellsSetTime v.atime ⨾ SpellsSetTime v.mtime
