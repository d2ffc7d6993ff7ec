-- Numbers and fields by hand, from the tables of RFC 1813.
use Rattle.std.proofs.Common.{◌≡◌, ℕ, List, [], ◌∷◌, ◌++◌, Some, None, Ok, Err, replicate, refl}
use Rattle.std.specs.Prelude.{codes}
use Rattle.xdr_codec.specs.declared.reader.XdrFault.TheVariants.{Short, TooLong, BadBool, BadValue}
use Rattle.xdr_codec.specs.Reading.{flag_at, fixed_at, opaque_at}
use Rattle.xdr_codec.specs.Spelling.{u32_bytes, u64_bytes, flag_bytes, fixed_bytes, opaque_bytes}
use Rattle.xdr_codec.proofs.Hex.{hex}
use Rattle.nfs_types.specs.declared.program.TheConstants.{NFS_PROGRAM, MOUNT_PROGRAM, PROGRAM_VERSION}
use Rattle.nfs_types.specs.declared.nfs_proc.TheConstants.{COMMIT}
use Rattle.nfs_types.specs.declared.mount_proc.TheConstants.{MNT}
use Rattle.nfs_types.specs.declared.time.Time.{Time}
use Rattle.nfs_types.specs.declared.attr.Attr.{Attr}
use Rattle.nfs_types.specs.declared.set_attr.SetAttr.{SetAttr}
use Rattle.nfs_types.specs.declared.set_attr.SetTime.TheVariants.{Keep, Server, Client}
use Rattle.nfs_types.specs.Fields.{handle_at, handle_bytes, name_at, name_bytes, verf_at, verf_bytes, time_at, time_bytes, attr_at, owner_bytes, place_bytes, attr_bytes, opt_attr_at, opt_attr_bytes, stamp_at, stamp_bytes, opt_stamp_bytes, wcc_at, wcc_bytes, set_time_of, set_time_at, opt_u32_at, opt_u64_at, set_attr_at, set_time_bytes, opt_u32_bytes, opt_u64_bytes, set_attr_bytes}
use Rattle.nfs_types.specs.Stamps.{stamp_of}

-- the programs, the version of both, and two procedures (sections 2.1, 5.1, 3.3.21 and 5.2.1)
numbers : NFS_PROGRAM ∷ MOUNT_PROGRAM ∷ PROGRAM_VERSION ∷ COMMIT ∷ MNT ∷ [] ≡ 100003 ∷ 100005 ∷ 3 ∷ 21 ∷ 1 ∷ []
numbers = refl

-- ---- attributes

abbrev time : ℕ → ℕ → Time
time seconds nanos = record { seconds = seconds; nanos = nanos }

-- a regular file, mode 0644, one link, owner 1000, group 100, 4660 bytes long, 8192 bytes on disk, no device, file
-- system 1, file 7, and its three times
abbrev file : Attr
file = record {
  kind = 1;
  mode = 420;
  nlink = 1;
  uid = 1000;
  gid = 100;
  size = 4660;
  used = 8192;
  rdev_major = 0;
  rdev_minor = 0;
  fsid = 1;
  fileid = 7;
  atime = time 10 11;
  mtime = time 20 21;
  ctime = time 30 31;
}

abbrev fattr3 : List ℕ
fattr3 = hex (codes "00000001 000001a4 00000001 000003e8 00000064 00000000 00001234 00000000 00002000 00000000 00000000 00000000 00000001 00000000 00000007 0000000a 0000000b 00000014 00000015 0000001e 0000001f")

attributes_read : attr_at fattr3 ≡ Ok (file, [])
unfolding attr_at time_at
attributes_read = refl

attributes_written : attr_bytes file ≡ fattr3
unfolding attr_bytes owner_bytes place_bytes time_bytes u32_bytes u64_bytes
attributes_written = refl

-- before, and nothing after
change_written : wcc_bytes (record { before = Some (stamp_of file); after = None }) ≡ hex (codes "00000001 00000000 00001234 00000014 00000015 0000001e 0000001f 00000000")
unfolding wcc_bytes opt_stamp_bytes stamp_bytes opt_attr_bytes time_bytes flag_bytes u32_bytes u64_bytes
change_written = refl

-- ---- file handles and names

handle_written : handle_bytes (1 ∷ 1 ∷ 1 ∷ 1 ∷ 1 ∷ []) ≡ hex (codes "00000005 01010101 01000000")
unfolding handle_bytes opaque_bytes fixed_bytes u32_bytes
handle_written = refl

-- padding of any value is read
handle_read : handle_at (hex (codes "00000005 01010101 01070809")) ≡ Ok (1 ∷ 1 ∷ 1 ∷ 1 ∷ 1 ∷ [], [])
unfolding handle_at opaque_at fixed_at
handle_read = refl

handle_of_65_bytes : handle_at (hex (codes "00000041")) ≡ Err TooLong
unfolding handle_at opaque_at
handle_of_65_bytes = refl

name_written : name_bytes (codes "a") ≡ hex (codes "00000001 61000000")
unfolding name_bytes opaque_bytes fixed_bytes u32_bytes
name_written = refl

name_of_256_bytes : name_at (hex (codes "00000100")) ≡ Err TooLong
unfolding name_at opaque_at
name_of_256_bytes = refl

name_of_no_bytes : name_at (hex (codes "00000000")) ≡ Err BadValue
unfolding name_at opaque_at fixed_at
name_of_no_bytes = refl

name_with_a_slash : name_at (hex (codes "00000001 2f000000")) ≡ Err BadValue
unfolding name_at opaque_at fixed_at
name_with_a_slash = refl

-- ---- attributes to set, and verifiers

abbrev set : SetAttr
set = record { mode = Some 420; uid = None; gid = None; size = Some 5; atime = Server; mtime = Client (time 3 4) }

abbrev sattr3 : List ℕ
sattr3 = hex (codes "00000001 000001a4 00000000 00000000 00000001 00000000 00000005 00000001 00000002 00000003 00000004")

set_read : set_attr_at sattr3 ≡ Ok (set, [])
unfolding set_attr_at opt_u32_at opt_u64_at set_time_at set_time_of time_at flag_at
set_read = refl

set_written : set_attr_bytes set ≡ sattr3
unfolding set_attr_bytes opt_u32_bytes opt_u64_bytes set_time_bytes time_bytes flag_bytes u32_bytes u64_bytes
set_written = refl

-- a choice of time above 2
set_of_three : set_attr_at (hex (codes "00000000 00000000 00000000 00000000 00000003")) ≡ Err BadValue
unfolding set_attr_at opt_u32_at opt_u64_at set_time_at set_time_of time_at flag_at
set_of_three = refl

verifier_written : verf_bytes (record { 0 = 1 ∷ 2 ∷ 3 ∷ 4 ∷ 5 ∷ 6 ∷ 7 ∷ 8 ∷ [] }) ≡ hex (codes "0102030405060708")
unfolding verf_bytes fixed_bytes
verifier_written = refl
