-- The arguments and results of READ, WRITE and COMMIT (RFC 1813, sections 3.3.6, 3.3.7 and 3.3.21).
use Rattle.std.specs.Prelude.{◌≤◌, ℕ, List, ◌++◌, length, Bool, Option, Result, Ok, Err, nat_lt, ◌==◌, if◌then◌else◌}
use Rattle.xdr_codec.specs.declared.reader.XdrFault.{XdrFault}
use Rattle.xdr_codec.specs.declared.reader.XdrFault.TheVariants.{BadValue}
use Rattle.xdr_codec.specs.Reading.{◌>>=◌, u32_at, u64_at, flag_at, opaque_at}
use Rattle.xdr_codec.specs.Spelling.{u32_bytes, u64_bytes, flag_bytes, opaque_bytes}
use Rattle.xdr_codec.specs.Spells.{◌⨾◌, SpellsU32, SpellsU64, SpellsFlag, SpellsOpaque}
use Rattle.nfs_types.specs.declared.attr.Attr.{Attr}
use Rattle.nfs_types.specs.declared.verf.Verf.{Verf}
use Rattle.nfs_types.specs.declared.wcc.Wcc.{Wcc}
use Rattle.nfs_types.specs.Fields.{handle_at, handle_bytes, verf_at, verf_bytes, opt_attr_at, opt_attr_bytes, wcc_at, wcc_bytes}
use Rattle.nfs_types.specs.Spells.{SpellsHandle, SpellsVerf, SpellsOptAttr, SpellsWcc}

-- ---- the arguments of WRITE: a file, an offset, the count of the data, how stable they are to be, and the data

-- 0 UNSTABLE, 1 DATA_SYNC or 2 FILE_SYNC
unfoldable pub how_at : List ℕ → Result (ℕ × List ℕ) XdrFault
how_at bytes = do
  how ← u32_at bytes
  if nat_lt 2 how.0 then Err BadValue else Ok how

pub record SpellsHow (how : ℕ) (bytes : List ℕ) : Type 0 where
  pub bound : how ≤ 2
  pub is : SpellsU32 how bytes

pub record WriteArgs : Type 0 where
  pub file : List ℕ
  pub offset : ℕ
  pub how : ℕ
  pub bytes : List ℕ

-- the count is the length of the data, which are at most 65,536 bytes
unfoldable pub write_args_at : List ℕ → Result (WriteArgs × List ℕ) XdrFault
write_args_at bytes = do
  file ← handle_at bytes
  offset ← u64_at file.1
  count ← u32_at offset.1
  how ← how_at count.1
  text ← opaque_at 65536 how.1
  if length text.0 == count.0 then Ok (record { file = file.0; offset = offset.0; how = how.0; bytes = text.0 }, text.1) else Err BadValue

abbrev pub SpellsWriteArgs : WriteArgs → List ℕ → Type 0
SpellsWriteArgs v = SpellsHandle v.file ⨾ SpellsU64 v.offset ⨾ SpellsU32 (length v.bytes) ⨾ SpellsHow v.how ⨾ SpellsOpaque 65536 v.bytes

unfoldable pub write_args_bytes : List ℕ → ℕ → ℕ → List ℕ → List ℕ
write_args_bytes file offset how bytes = handle_bytes file ++ u64_bytes offset ++ u32_bytes (length bytes) ++ u32_bytes how ++ opaque_bytes bytes

-- ---- the arguments of READ and COMMIT: a file, an offset and a count

pub record RangeArgs : Type 0 where
  pub file : List ℕ
  pub offset : ℕ
  pub count : ℕ

unfoldable pub range_args_at : List ℕ → Result (RangeArgs × List ℕ) XdrFault
range_args_at bytes = do
  file ← handle_at bytes
  offset ← u64_at file.1
  count ← u32_at offset.1
  Ok (record { file = file.0; offset = offset.0; count = count.0 }, count.1)

abbrev pub SpellsRangeArgs : RangeArgs → List ℕ → Type 0
SpellsRangeArgs v = SpellsHandle v.file ⨾ SpellsU64 v.offset ⨾ SpellsU32 v.count

unfoldable pub range_args_bytes : List ℕ → ℕ → ℕ → List ℕ
range_args_bytes file offset count = handle_bytes file ++ u64_bytes offset ++ u32_bytes count

-- ---- the results of READ: attributes or none, the count read, whether the file ends there, and the data

pub record ReadDone : Type 0 where
  pub attr : Option Attr
  pub count : ℕ
  pub eof : Bool
  pub bytes : List ℕ

-- the data are at most 65,536 bytes
unfoldable pub read_done_at : List ℕ → Result (ReadDone × List ℕ) XdrFault
read_done_at bytes = do
  attr ← opt_attr_at bytes
  count ← u32_at attr.1
  eof ← flag_at count.1
  text ← opaque_at 65536 eof.1
  Ok (record { attr = attr.0; count = count.0; eof = eof.0; bytes = text.0 }, text.1)

abbrev pub SpellsReadDone : ReadDone → List ℕ → Type 0
SpellsReadDone v = SpellsOptAttr v.attr ⨾ SpellsU32 v.count ⨾ SpellsFlag v.eof ⨾ SpellsOpaque 65536 v.bytes

unfoldable pub read_done_bytes : Option Attr → ℕ → Bool → List ℕ → List ℕ
read_done_bytes attr count eof bytes = opt_attr_bytes attr ++ u32_bytes count ++ flag_bytes eof ++ opaque_bytes bytes

-- ---- the results of WRITE: the change, the count written, how stable it is, and the server's verifier

pub record WriteDone : Type 0 where
  pub wcc : Wcc
  pub count : ℕ
  pub committed : ℕ
  pub verf : Verf

unfoldable pub write_done_at : List ℕ → Result (WriteDone × List ℕ) XdrFault
write_done_at bytes = do
  wcc ← wcc_at bytes
  count ← u32_at wcc.1
  committed ← u32_at count.1
  verf ← verf_at committed.1
  Ok (record { wcc = wcc.0; count = count.0; committed = committed.0; verf = verf.0 }, verf.1)

abbrev pub SpellsWriteDone : WriteDone → List ℕ → Type 0
SpellsWriteDone v = SpellsWcc v.wcc ⨾ SpellsU32 v.count ⨾ SpellsU32 v.committed ⨾ SpellsVerf v.verf

unfoldable pub write_done_bytes : Wcc → ℕ → ℕ → Verf → List ℕ
write_done_bytes wcc count committed verf = wcc_bytes wcc ++ u32_bytes count ++ u32_bytes committed ++ verf_bytes verf

-- ---- the results of COMMIT: the change and the server's verifier

pub record CommitDone : Type 0 where
  pub wcc : Wcc
  pub verf : Verf

unfoldable pub commit_done_at : List ℕ → Result (CommitDone × List ℕ) XdrFault
commit_done_at bytes = do
  wcc ← wcc_at bytes
  verf ← verf_at wcc.1
  Ok (record { wcc = wcc.0; verf = verf.0 }, verf.1)

abbrev pub SpellsCommitDone : CommitDone → List ℕ → Type 0
SpellsCommitDone v = SpellsWcc v.wcc ⨾ SpellsVerf v.verf

unfoldable pub commit_done_bytes : Wcc → Verf → List ℕ
commit_done_bytes wcc verf = wcc_bytes wcc ++ verf_bytes verf
