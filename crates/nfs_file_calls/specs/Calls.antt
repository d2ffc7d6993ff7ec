-- The calls on files (RFC 1813, section 3.3): their numbers, how arguments are read, and their written spelling.
use Rattle.std.specs.Prelude.{◌≡◌, ◌≤◌, ℕ, List, [], length, Bool, ◌||◌, IsTrue, Result, Ok, Err, ◌==◌, if◌then◌else◌}
use Rattle.xdr_codec.specs.declared.reader.XdrFault.{XdrFault}
use Rattle.xdr_codec.specs.declared.reader.XdrFault.TheVariants.{BadValue}
use Rattle.xdr_codec.specs.Reading.{◌>>=◌}
use Rattle.xdr_codec.specs.Whole.{whole_at}
use Rattle.nfs_types.specs.Fields.{handle_at, handle_bytes}
use Rattle.nfs_types.specs.Spells.{SpellsHandle}
use Rattle.nfs_types.specs.declared.nfs_proc.TheConstants.{NULL, GETATTR, SETATTR, ACCESS, READ, WRITE, FSSTAT, FSINFO, PATHCONF, COMMIT}
use Rattle.nfs_file_calls.specs.declared.call.FileCall.{FileCall}
use Rattle.nfs_file_calls.specs.declared.call.FileCall.TheVariants as calls
use Rattle.nfs_file_calls.specs.Attributes.{nothing_at, SpellsNothing, set_attr_args_at, set_attr_args_bytes, SpellsSetAttrArgs, access_args_at, access_args_bytes, SpellsAccessArgs}
use Rattle.nfs_file_calls.specs.Transfer.{write_args_at, write_args_bytes, SpellsWriteArgs, range_args_at, range_args_bytes, SpellsRangeArgs}

-- the procedure that a call names
abbrev pub file_proc : FileCall → ℕ
file_proc calls.Null = NULL
file_proc (calls.GetAttr file) = GETATTR
file_proc (calls.SetAttr file set guard) = SETATTR
file_proc (calls.Access file bits) = ACCESS
file_proc (calls.Read file offset count) = READ
file_proc (calls.Write file offset how bytes) = WRITE
file_proc (calls.FsStat file) = FSSTAT
file_proc (calls.FsInfo file) = FSINFO
file_proc (calls.PathConf file) = PATHCONF
file_proc (calls.Commit file offset count) = COMMIT

-- one of these procedures
abbrev pub is_file_proc : ℕ → Bool
is_file_proc proc =
    (proc == NULL) || (proc == GETATTR) || (proc == SETATTR) || (proc == ACCESS) || (proc == READ) || (proc == WRITE) || (proc == FSSTAT) || (proc == FSINFO)
    || (proc == PATHCONF) || (proc == COMMIT)

abbrev pub IsFileProc : ℕ → Type 0
IsFileProc proc = IsTrue (is_file_proc proc)

-- ---- reading

unfoldable pub null_call_at : List ℕ → Result FileCall XdrFault
null_call_at args = whole_at nothing_at args >>= λ v. Ok calls.Null

unfoldable pub get_attr_call_at : List ℕ → Result FileCall XdrFault
get_attr_call_at args = whole_at handle_at args >>= λ file. Ok (calls.GetAttr file)

unfoldable pub set_attr_call_at : List ℕ → Result FileCall XdrFault
set_attr_call_at args = whole_at set_attr_args_at args >>= λ v. Ok (calls.SetAttr v.file v.set v.guard)

unfoldable pub access_call_at : List ℕ → Result FileCall XdrFault
access_call_at args = whole_at access_args_at args >>= λ v. Ok (calls.Access v.file v.bits)

unfoldable pub read_call_at : List ℕ → Result FileCall XdrFault
read_call_at args = whole_at range_args_at args >>= λ v. Ok (calls.Read v.file v.offset v.count)

unfoldable pub write_call_at : List ℕ → Result FileCall XdrFault
write_call_at args = whole_at write_args_at args >>= λ v. Ok (calls.Write v.file v.offset v.how v.bytes)

unfoldable pub fs_stat_call_at : List ℕ → Result FileCall XdrFault
fs_stat_call_at args = whole_at handle_at args >>= λ file. Ok (calls.FsStat file)

unfoldable pub fs_info_call_at : List ℕ → Result FileCall XdrFault
fs_info_call_at args = whole_at handle_at args >>= λ file. Ok (calls.FsInfo file)

unfoldable pub path_conf_call_at : List ℕ → Result FileCall XdrFault
path_conf_call_at args = whole_at handle_at args >>= λ file. Ok (calls.PathConf file)

unfoldable pub commit_call_at : List ℕ → Result FileCall XdrFault
commit_call_at args = whole_at range_args_at args >>= λ v. Ok (calls.Commit v.file v.offset v.count)

-- the call of a procedure, from all of the bytes
abbrev pub file_call_at : ℕ → List ℕ → Result FileCall XdrFault
file_call_at proc args =
    if proc == NULL then null_call_at args else
    (if proc == GETATTR then get_attr_call_at args else
    (if proc == SETATTR then set_attr_call_at args else
    (if proc == ACCESS then access_call_at args else
    (if proc == READ then read_call_at args else
    (if proc == WRITE then write_call_at args else
    (if proc == FSSTAT then fs_stat_call_at args else
    (if proc == FSINFO then fs_info_call_at args else
    (if proc == PATHCONF then path_conf_call_at args else
    (if proc == COMMIT then commit_call_at args else Err BadValue)))))))))

-- ---- spelling

-- the arguments of a call
abbrev pub SpellsFileArgs : FileCall → List ℕ → Type 0
SpellsFileArgs calls.Null = SpellsNothing tt
SpellsFileArgs (calls.GetAttr file) = SpellsHandle file
SpellsFileArgs (calls.SetAttr file set guard) = SpellsSetAttrArgs (record { file = file; set = set; guard = guard })
SpellsFileArgs (calls.Access file bits) = SpellsAccessArgs (record { file = file; bits = bits })
SpellsFileArgs (calls.Read file offset count) = SpellsRangeArgs (record { file = file; offset = offset; count = count })
SpellsFileArgs (calls.Write file offset how bytes) = SpellsWriteArgs (record { file = file; offset = offset; how = how; bytes = bytes })
SpellsFileArgs (calls.FsStat file) = SpellsHandle file
SpellsFileArgs (calls.FsInfo file) = SpellsHandle file
SpellsFileArgs (calls.PathConf file) = SpellsHandle file
SpellsFileArgs (calls.Commit file offset count) = SpellsRangeArgs (record { file = file; offset = offset; count = count })

-- a call of that procedure
pub record SpellsFileCall (proc : ℕ) (call : FileCall) (args : List ℕ) : Type 0 where
  pub names : file_proc call ≡ proc
  pub is : SpellsFileArgs call args

-- a call that bytes can spell: all do, but for some WRITEs
abbrev pub HasSpellingCall : FileCall → Type 0
HasSpellingCall (calls.Write file offset how bytes) = (how ≤ 2) × (length bytes ≤ 65536)
HasSpellingCall call = Unit {0}

unfoldable pub file_call_bytes : FileCall → List ℕ
file_call_bytes calls.Null = []
file_call_bytes (calls.GetAttr file) = handle_bytes file
file_call_bytes (calls.SetAttr file set guard) = set_attr_args_bytes file set guard
file_call_bytes (calls.Access file bits) = access_args_bytes file bits
file_call_bytes (calls.Read file offset count) = range_args_bytes file offset count
file_call_bytes (calls.Write file offset how bytes) = write_args_bytes file offset how bytes
file_call_bytes (calls.FsStat file) = handle_bytes file
file_call_bytes (calls.FsInfo file) = handle_bytes file
file_call_bytes (calls.PathConf file) = handle_bytes file
file_call_bytes (calls.Commit file offset count) = range_args_bytes file offset count
