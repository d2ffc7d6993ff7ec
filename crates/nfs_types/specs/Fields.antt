-- The fields of NFS (RFC 1813, section 2.5): what is read from the front of bytes, and the written spelling.
use Rattle.std.specs.Prelude.{ℕ, zero, suc, List, ◌++◌, Option, Result, Ok, Err, if◌then◌else◌}
use Rattle.xdr_codec.specs.declared.reader.XdrFault.{XdrFault}
use Rattle.xdr_codec.specs.declared.reader.XdrFault.TheVariants.{BadValue}
use Rattle.xdr_codec.specs.Reading.{◌>>=◌, u32_at, u64_at, fixed_at, opaque_at}
use Rattle.xdr_codec.specs.Spelling.{u32_bytes, u64_bytes, fixed_bytes, opaque_bytes, opt_bytes}
use Rattle.xdr_codec.specs.Lists.{opt_at}
use Rattle.nfs_types.specs.Names.{is_no_name}
use Rattle.nfs_types.specs.declared.verf.Verf.{Verf}
use Rattle.nfs_types.specs.declared.time.Time.{Time}
use Rattle.nfs_types.specs.declared.attr.Attr.{Attr}
use Rattle.nfs_types.specs.declared.wcc.Stamp.{Stamp}
use Rattle.nfs_types.specs.declared.wcc.Wcc.{Wcc}
use Rattle.nfs_types.specs.declared.set_attr.SetTime.{SetTime}
use Rattle.nfs_types.specs.declared.set_attr.SetTime.TheVariants.{Keep, Server, Client}
use Rattle.nfs_types.specs.declared.set_attr.SetAttr.{SetAttr}

-- a file handle, nfs_fh3: an opaque of at most 64 bytes
unfoldable pub handle_at : List ℕ → Result (List ℕ × List ℕ) XdrFault
handle_at bytes = opaque_at 64 bytes

unfoldable pub handle_bytes : List ℕ → List ℕ
handle_bytes v = opaque_bytes v

-- a name, filename3: a string of at most 255 bytes, and then the rule of a name
unfoldable pub name_at : List ℕ → Result (List ℕ × List ℕ) XdrFault
name_at bytes = do
  name ← opaque_at 255 bytes
  if is_no_name name.0 then Err BadValue else Ok name

unfoldable pub name_bytes : List ℕ → List ℕ
name_bytes v = opaque_bytes v

-- a verifier: a fixed opaque of 8 bytes, cookieverf3, createverf3 and writeverf3
unfoldable pub verf_at : List ℕ → Result (Verf × List ℕ) XdrFault
verf_at bytes = do
  eight ← fixed_at 8 bytes
  Ok (record { 0 = eight.0 }, eight.1)

unfoldable pub verf_bytes : Verf → List ℕ
verf_bytes v = fixed_bytes v.0

-- a time, nfstime3
unfoldable pub time_at : List ℕ → Result (Time × List ℕ) XdrFault
time_at bytes = do
  seconds ← u32_at bytes
  nanos ← u32_at seconds.1
  Ok (record { seconds = seconds.0; nanos = nanos.0 }, nanos.1)

unfoldable pub time_bytes : Time → List ℕ
time_bytes v = u32_bytes v.seconds ++ u32_bytes v.nanos

-- the attributes of a file, fattr3
unfoldable pub attr_at : List ℕ → Result (Attr × List ℕ) XdrFault
attr_at bytes = do
  kind ← u32_at bytes
  mode ← u32_at kind.1
  nlink ← u32_at mode.1
  uid ← u32_at nlink.1
  gid ← u32_at uid.1
  size ← u64_at gid.1
  used ← u64_at size.1
  rdev_major ← u32_at used.1
  rdev_minor ← u32_at rdev_major.1
  fsid ← u64_at rdev_minor.1
  fileid ← u64_at fsid.1
  atime ← time_at fileid.1
  mtime ← time_at atime.1
  ctime ← time_at mtime.1
  Ok (
    record {
      kind = kind.0;
      mode = mode.0;
      nlink = nlink.0;
      uid = uid.0;
      gid = gid.0;
      size = size.0;
      used = used.0;
      rdev_major = rdev_major.0;
      rdev_minor = rdev_minor.0;
      fsid = fsid.0;
      fileid = fileid.0;
      atime = atime.0;
      mtime = mtime.0;
      ctime = ctime.0;
    },
    ctime.1,
  )

-- its kind, mode, links and owners
unfoldable pub owner_bytes : Attr → List ℕ
owner_bytes v = u32_bytes v.kind ++ u32_bytes v.mode ++ u32_bytes v.nlink ++ u32_bytes v.uid ++ u32_bytes v.gid

-- its sizes and numbers
unfoldable pub place_bytes : Attr → List ℕ
place_bytes v = u64_bytes v.size ++ u64_bytes v.used ++ u32_bytes v.rdev_major ++ u32_bytes v.rdev_minor ++ u64_bytes v.fsid ++ u64_bytes v.fileid

unfoldable pub attr_bytes : Attr → List ℕ
attr_bytes v = owner_bytes v ++ place_bytes v ++ time_bytes v.atime ++ time_bytes v.mtime ++ time_bytes v.ctime

-- attributes or none, post_op_attr
unfoldable pub opt_attr_at : List ℕ → Result (Option Attr × List ℕ) XdrFault
opt_attr_at bytes = opt_at attr_at bytes

unfoldable pub opt_attr_bytes : Option Attr → List ℕ
opt_attr_bytes v = opt_bytes attr_bytes v

-- the attributes before a change, wcc_attr
unfoldable pub stamp_at : List ℕ → Result (Stamp × List ℕ) XdrFault
stamp_at bytes = do
  size ← u64_at bytes
  mtime ← time_at size.1
  ctime ← time_at mtime.1
  Ok (record { size = size.0; mtime = mtime.0; ctime = ctime.0 }, ctime.1)

unfoldable pub stamp_bytes : Stamp → List ℕ
stamp_bytes v = u64_bytes v.size ++ time_bytes v.mtime ++ time_bytes v.ctime

unfoldable pub opt_stamp_at : List ℕ → Result (Option Stamp × List ℕ) XdrFault
opt_stamp_at bytes = opt_at stamp_at bytes

unfoldable pub opt_stamp_bytes : Option Stamp → List ℕ
opt_stamp_bytes v = opt_bytes stamp_bytes v

-- before and after a change, wcc_data
unfoldable pub wcc_at : List ℕ → Result (Wcc × List ℕ) XdrFault
wcc_at bytes = do
  before ← opt_stamp_at bytes
  after ← opt_attr_at before.1
  Ok (record { before = before.0; after = after.0 }, after.1)

unfoldable pub wcc_bytes : Wcc → List ℕ
wcc_bytes v = opt_stamp_bytes v.before ++ opt_attr_bytes v.after

-- how a time is to be set, set_atime and set_mtime: 0 not at all, 1 to the server's time, 2 to the time that follows
unfoldable pub set_time_of : ℕ → List ℕ → Result (SetTime × List ℕ) XdrFault
set_time_of zero bytes = Ok (Keep, bytes)
set_time_of (suc zero) bytes = Ok (Server, bytes)
set_time_of (suc (suc zero)) bytes = time_at bytes >>= λ time. Ok (Client time.0, time.1)
set_time_of (suc (suc (suc n))) bytes = Err BadValue

unfoldable pub set_time_at : List ℕ → Result (SetTime × List ℕ) XdrFault
set_time_at bytes = do
  how ← u32_at bytes
  set_time_of how.0 how.1

unfoldable pub set_time_bytes : SetTime → List ℕ
set_time_bytes Keep = u32_bytes 0
set_time_bytes Server = u32_bytes 1
set_time_bytes (Client time) = u32_bytes 2 ++ time_bytes time

unfoldable pub opt_u32_at : List ℕ → Result (Option ℕ × List ℕ) XdrFault
opt_u32_at bytes = opt_at u32_at bytes

unfoldable pub opt_u32_bytes : Option ℕ → List ℕ
opt_u32_bytes v = opt_bytes u32_bytes v

unfoldable pub opt_u64_at : List ℕ → Result (Option ℕ × List ℕ) XdrFault
opt_u64_at bytes = opt_at u64_at bytes

unfoldable pub opt_u64_bytes : Option ℕ → List ℕ
opt_u64_bytes v = opt_bytes u64_bytes v

-- the attributes to set, sattr3
unfoldable pub set_attr_at : List ℕ → Result (SetAttr × List ℕ) XdrFault
set_attr_at bytes = do
  mode ← opt_u32_at bytes
  uid ← opt_u32_at mode.1
  gid ← opt_u32_at uid.1
  size ← opt_u64_at gid.1
  atime ← set_time_at size.1
  mtime ← set_time_at atime.1
  Ok (record { mode = mode.0; uid = uid.0; gid = gid.0; size = size.0; atime = atime.0; mtime = mtime.0 }, mtime.1)

unfoldable pub set_attr_bytes : SetAttr → List ℕ
set_attr_bytes v =
    opt_u32_bytes v.mode ++ opt_u32_bytes v.uid ++ opt_u32_bytes v.gid ++ opt_u64_bytes v.size ++ set_time_bytes v.atime ++ set_time_bytes v.mtime
