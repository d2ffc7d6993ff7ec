-- The written spelling of a field is a spelling of it.
use Rattle.std.proofs.Common.{◌≡◌, ◌<◌, ◌^◌, ℕ, List, ◌++◌, length, true, false, Option, Some, None, sym, subst, append_assoc, arith}
use Rattle.xdr_codec.specs.Spelling.{u32_bytes, u64_bytes, fixed_bytes}
use Rattle.xdr_codec.specs.Spells.{SpellsU32, SpellsU64, SpellsFixed, SpellsOpt}
use Rattle.xdr_codec.proofs.Written.{u32_written, u64_written, flag_written, fixed_written, opaque_within, joined}
use Rattle.nfs_types.specs.declared.verf.Verf.{Verf}
use Rattle.nfs_types.specs.declared.time.Time.{Time}
use Rattle.nfs_types.specs.declared.attr.Attr.{Attr}
use Rattle.nfs_types.specs.declared.wcc.Stamp.{Stamp}
use Rattle.nfs_types.specs.declared.wcc.Wcc.{Wcc}
use Rattle.nfs_types.specs.declared.set_attr.SetTime.{SetTime}
use Rattle.nfs_types.specs.declared.set_attr.SetTime.TheVariants.{Keep, Server, Client}
use Rattle.nfs_types.specs.declared.set_attr.SetAttr.{SetAttr}
use Rattle.nfs_types.specs.Names.{IsHandle, IsName}
use Rattle.nfs_types.specs.Fields.{handle_bytes, name_bytes, verf_bytes, time_bytes, owner_bytes, place_bytes, attr_bytes, opt_attr_bytes, stamp_bytes, opt_stamp_bytes, wcc_bytes, set_time_bytes, opt_u32_bytes, opt_u64_bytes, set_attr_bytes}
use Rattle.nfs_types.specs.Spells.{SpellsHandle, SpellsName, SpellsVerf, SpellsTime, SpellsAttr, SpellsOptAttr, SpellsStamp, SpellsWcc, SpellsSetTime, SpellsSetAttr}

pub handle_written : (v : List ℕ) → IsHandle v → SpellsHandle v (handle_bytes v)
unfolding handle_bytes
handle_written v le = opaque_within 64 v le (omega (arith, le))

pub name_written : (v : List ℕ) → IsName v → SpellsName v (name_bytes v)
unfolding name_bytes
name_written v k = record { rule = k; is = opaque_within 255 v k.bound (omega (arith, k.bound)) }

pub verf_written : (v : Verf) → length v.0 ≡ 8 → SpellsVerf v (verf_bytes v)
unfolding verf_bytes
verf_written v eight = subst (λ (n : ℕ). SpellsFixed n v.0 (fixed_bytes v.0)) eight (fixed_written v.0)

pub time_written : (v : Time) → v.seconds < 2 ^ 32 → v.nanos < 2 ^ 32 → SpellsTime v (time_bytes v)
unfolding time_bytes
time_written v seconds nanos = joined _ _ (u32_written v.seconds seconds) (u32_written v.nanos nanos)

pub stamp_written : (v : Stamp) → v.size < 2 ^ 64 → SpellsTime v.mtime (time_bytes v.mtime) → SpellsTime v.ctime (time_bytes v.ctime) → SpellsStamp v (stamp_bytes v)
unfolding stamp_bytes
stamp_written v size mtime ctime =
    let nested : SpellsStamp v (u64_bytes v.size ++ (time_bytes v.mtime ++ time_bytes v.ctime)) = joined _ _ (u64_written v.size size) (joined _ _ mtime ctime) in
    subst (λ (t : List ℕ). SpellsStamp v t) (sym (append_assoc (u64_bytes v.size) (time_bytes v.mtime) (time_bytes v.ctime))) nested

pub attr_written : (v : Attr) → v.kind < 2 ^ 32 → v.mode < 2 ^ 32 → v.nlink < 2 ^ 32 → v.uid < 2 ^ 32 → v.gid < 2 ^ 32 → v.size < 2 ^ 64 → v.used < 2 ^ 64
    → v.rdev_major < 2 ^ 32 → v.rdev_minor < 2 ^ 32 → v.fsid < 2 ^ 64 → v.fileid < 2 ^ 64
    → SpellsTime v.atime (time_bytes v.atime) → SpellsTime v.mtime (time_bytes v.mtime) → SpellsTime v.ctime (time_bytes v.ctime) → SpellsAttr v (attr_bytes v)
unfolding attr_bytes owner_bytes place_bytes
attr_written v kind mode nlink uid gid size used rdev_major rdev_minor fsid fileid atime mtime ctime =
    let nested : SpellsAttr v (
    u32_bytes v.kind ++ (u32_bytes v.mode ++ (u32_bytes v.nlink ++ (u32_bytes v.uid ++ (u32_bytes v.gid ++ (u64_bytes v.size ++ (u64_bytes v.used
    ++ (u32_bytes v.rdev_major ++ (u32_bytes v.rdev_minor ++ (u64_bytes v.fsid ++ (u64_bytes v.fileid ++ (time_bytes v.atime ++ (time_bytes v.mtime ++ time_bytes v.ctime))))))))))))
    ) = (
    joined _ _ (u32_written v.kind kind) (joined _ _ (u32_written v.mode mode) (joined _ _ (u32_written v.nlink nlink) (joined _ _ (u32_written v.uid uid) (joined _ _ (u32_written v.gid gid)
    (joined _ _ (u64_written v.size size) (joined _ _ (u64_written v.used used) (joined _ _ (u32_written v.rdev_major rdev_major) (joined _ _ (u32_written v.rdev_minor rdev_minor)
    (joined _ _ (u64_written v.fsid fsid) (joined _ _ (u64_written v.fileid fileid) (joined _ _ atime (joined _ _ mtime ctime))))))))))))
    ) in
    subst (λ (t : List ℕ). SpellsAttr v t) (simp append_assoc) nested

pub none_attr_written : (v : Option Attr) → v ≡ None → SpellsOptAttr v (opt_attr_bytes v)
unfolding opt_attr_bytes
none_attr_written v is = rw is (flag_written false)

pub some_attr_written : (v : Attr) → SpellsAttr v (attr_bytes v) → SpellsOptAttr (Some v) (opt_attr_bytes (Some v))
unfolding opt_attr_bytes
some_attr_written v s = joined _ _ (flag_written true) s

pub none_stamp_written : (v : Option Stamp) → v ≡ None → SpellsOpt SpellsStamp v (opt_stamp_bytes v)
unfolding opt_stamp_bytes
none_stamp_written v is = rw is (flag_written false)

pub some_stamp_written : (v : Stamp) → SpellsStamp v (stamp_bytes v) → SpellsOpt SpellsStamp (Some v) (opt_stamp_bytes (Some v))
unfolding opt_stamp_bytes
some_stamp_written v s = joined _ _ (flag_written true) s

pub wcc_written : (v : Wcc) → SpellsOpt SpellsStamp v.before (opt_stamp_bytes v.before) → SpellsOptAttr v.after (opt_attr_bytes v.after) → SpellsWcc v (wcc_bytes v)
unfolding wcc_bytes
wcc_written v before after = joined _ _ before after

pub none_u32_written : (v : Option ℕ) → v ≡ None → SpellsOpt SpellsU32 v (opt_u32_bytes v)
unfolding opt_u32_bytes
none_u32_written v is = rw is (flag_written false)

pub some_u32_written : (v : ℕ) → v < 2 ^ 32 → SpellsOpt SpellsU32 (Some v) (opt_u32_bytes (Some v))
unfolding opt_u32_bytes
some_u32_written v fits = joined _ _ (flag_written true) (u32_written v fits)

pub none_u64_written : (v : Option ℕ) → v ≡ None → SpellsOpt SpellsU64 v (opt_u64_bytes v)
unfolding opt_u64_bytes
none_u64_written v is = rw is (flag_written false)

pub some_u64_written : (v : ℕ) → v < 2 ^ 64 → SpellsOpt SpellsU64 (Some v) (opt_u64_bytes (Some v))
unfolding opt_u64_bytes
some_u64_written v fits = joined _ _ (flag_written true) (u64_written v fits)

pub keep_written : (v : SetTime) → v ≡ Keep → SpellsSetTime v (set_time_bytes v)
unfolding set_time_bytes
keep_written v is = rw is (u32_written 0 (omega arith))

pub server_written : (v : SetTime) → v ≡ Server → SpellsSetTime v (set_time_bytes v)
unfolding set_time_bytes
server_written v is = rw is (u32_written 1 (omega arith))

pub client_written : (v : Time) → SpellsTime v (time_bytes v) → SpellsSetTime (Client v) (set_time_bytes (Client v))
unfolding set_time_bytes
client_written v s = joined _ _ (u32_written 2 (omega arith)) s

pub set_attr_written : (v : SetAttr) → SpellsOpt SpellsU32 v.mode (opt_u32_bytes v.mode) → SpellsOpt SpellsU32 v.uid (opt_u32_bytes v.uid) → SpellsOpt SpellsU32 v.gid (opt_u32_bytes v.gid)
    → SpellsOpt SpellsU64 v.size (opt_u64_bytes v.size) → SpellsSetTime v.atime (set_time_bytes v.atime) → SpellsSetTime v.mtime (set_time_bytes v.mtime) → SpellsSetAttr v (set_attr_bytes v)
unfolding set_attr_bytes
set_attr_written v mode uid gid size atime mtime =
    let nested : SpellsSetAttr v (opt_u32_bytes v.mode ++ (opt_u32_bytes v.uid ++ (opt_u32_bytes v.gid ++ (opt_u64_bytes v.size ++ (set_time_bytes v.atime ++ set_time_bytes v.mtime))))) = (
    joined _ _ mode (joined _ _ uid (joined _ _ gid (joined _ _ size (joined _ _ atime mtime))))
    ) in
    subst (λ (t : List ℕ). SpellsSetAttr v t) (simp append_assoc) nested
