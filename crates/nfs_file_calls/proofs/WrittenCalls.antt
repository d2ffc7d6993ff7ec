-- The written arguments of a call spell it.
use Rattle.std.proofs.Common.{◌<◌, ◌≤◌, ◌^◌, ℕ, List, length, Option, refl}
use Rattle.xdr_codec.specs.Spells.{SpellsOpt}
use Rattle.nfs_types.specs.declared.set_attr.SetAttr.{SetAttr}
use Rattle.nfs_types.specs.declared.time.Time.{Time}
use Rattle.nfs_types.specs.Fields.{handle_bytes, set_attr_bytes}
use Rattle.nfs_types.specs.Spells.{SpellsHandle, SpellsSetAttr, SpellsTime}
use Rattle.nfs_file_calls.specs.declared.call.FileCall.TheVariants as calls
use Rattle.nfs_file_calls.specs.Attributes.{guard_bytes}
use Rattle.nfs_file_calls.specs.Calls.{file_call_bytes, SpellsFileArgs}
use Rattle.nfs_file_calls.proofs.Written.{set_attr_args_written, access_args_written, range_args_written, write_args_written}

pub null_call_written : SpellsFileArgs calls.Null (file_call_bytes calls.Null)
unfolding file_call_bytes
null_call_written = record { is = refl }

pub get_attr_call_written : (file : List ℕ) → SpellsHandle file (handle_bytes file) → SpellsFileArgs (calls.GetAttr file) (file_call_bytes (calls.GetAttr file))
unfolding file_call_bytes
get_attr_call_written file f = f

pub set_attr_call_written : (file : List ℕ) (set : SetAttr) (guard : Option Time) → SpellsHandle file (handle_bytes file) → SpellsSetAttr set (set_attr_bytes set) → SpellsOpt SpellsTime guard (guard_bytes guard) → SpellsFileArgs (calls.SetAttr file set guard) (file_call_bytes (calls.SetAttr file set guard))
unfolding file_call_bytes
set_attr_call_written = set_attr_args_written

pub access_call_written : (file : List ℕ) (bits : ℕ) → SpellsHandle file (handle_bytes file) → bits < 2 ^ 32 → SpellsFileArgs (calls.Access file bits) (file_call_bytes (calls.Access file bits))
unfolding file_call_bytes
access_call_written = access_args_written

pub read_call_written : (file : List ℕ) (offset count : ℕ) → SpellsHandle file (handle_bytes file) → offset < 2 ^ 64 → count < 2 ^ 32 → SpellsFileArgs (calls.Read file offset count) (file_call_bytes (calls.Read file offset count))
unfolding file_call_bytes
read_call_written = range_args_written

pub write_call_written : (file : List ℕ) (offset how : ℕ) (bytes : List ℕ) → SpellsHandle file (handle_bytes file) → offset < 2 ^ 64 → how ≤ 2 → length bytes ≤ 65536 → SpellsFileArgs (calls.Write file offset how bytes) (file_call_bytes (calls.Write file offset how bytes))
unfolding file_call_bytes
write_call_written = write_args_written

pub fs_stat_call_written : (file : List ℕ) → SpellsHandle file (handle_bytes file) → SpellsFileArgs (calls.FsStat file) (file_call_bytes (calls.FsStat file))
unfolding file_call_bytes
fs_stat_call_written file f = f

pub fs_info_call_written : (file : List ℕ) → SpellsHandle file (handle_bytes file) → SpellsFileArgs (calls.FsInfo file) (file_call_bytes (calls.FsInfo file))
unfolding file_call_bytes
fs_info_call_written file f = f

pub path_conf_call_written : (file : List ℕ) → SpellsHandle file (handle_bytes file) → SpellsFileArgs (calls.PathConf file) (file_call_bytes (calls.PathConf file))
unfolding file_call_bytes
path_conf_call_written file f = f

pub commit_call_written : (file : List ℕ) (offset count : ℕ) → SpellsHandle file (handle_bytes file) → offset < 2 ^ 64 → count < 2 ^ 32 → SpellsFileArgs (calls.Commit file offset count) (file_call_bytes (calls.Commit file offset count))
unfolding file_call_bytes
commit_call_written = range_args_written
