-- Calls: what is read is spelled so, and what is spelled so is read.
use Rattle.std.proofs.Common.{◌≡◌, ℕ, List, Result, Ok, Err, refl}
use Rattle.std.specs.Prelude.{IfOk}
use Rattle.xdr_codec.specs.declared.codec_fault.CodecFault.{CodecFault}
use Rattle.xdr_codec.specs.Whole.{FindsOwned}
use Rattle.xdr_codec.specs.declared.reader.XdrFault.TheVariants.{BadValue}
use Rattle.xdr_codec.specs.Bytes.{IsBytes}
use Rattle.xdr_codec.proofs.WholeLaws.{WholeCodec, whole_codec}
use Rattle.nfs_file_calls.specs.declared.call.FileCall.{FileCall}
use Rattle.nfs_file_calls.specs.declared.call.FileCall.TheVariants as calls
use Rattle.nfs_file_calls.specs.Calls.{null_call_at, get_attr_call_at, set_attr_call_at, access_call_at, read_call_at, write_call_at, fs_stat_call_at, fs_info_call_at, path_conf_call_at, commit_call_at, file_call_at, file_proc, SpellsFileArgs, SpellsFileCall, HasSpellingCall}
use Rattle.nfs_file_calls.proofs.Tools.{made_takes, made_again, dispatch, nothing_read}
use Rattle.nfs_types.proofs.Laws.{handle_codec}
use Rattle.nfs_file_calls.proofs.AttributesLaws.{nothing_codec, set_attr_args_codec, access_args_codec}
use Rattle.nfs_file_calls.proofs.TransferLaws.{write_args_codec, range_args_codec}

null_takes : (args : List ℕ) (v : FileCall) → IsBytes args → null_call_at args ≡ Ok v → SpellsFileCall 0 v args
unfolding null_call_at
null_takes = made_takes (SpellsFileCall 0) (λ v. calls.Null) (whole_codec nothing_codec) (λ a args s. record { names = refl; is = s })

get_attr_takes : (args : List ℕ) (v : FileCall) → IsBytes args → get_attr_call_at args ≡ Ok v → SpellsFileCall 1 v args
unfolding get_attr_call_at
get_attr_takes = made_takes (SpellsFileCall 1) (λ file. calls.GetAttr file) (whole_codec handle_codec) (λ a args s. record { names = refl; is = s })

set_attr_takes : (args : List ℕ) (v : FileCall) → IsBytes args → set_attr_call_at args ≡ Ok v → SpellsFileCall 2 v args
unfolding set_attr_call_at
set_attr_takes = made_takes (SpellsFileCall 2) (λ v. calls.SetAttr v.file v.set v.guard) (whole_codec set_attr_args_codec) (λ a args s. record { names = refl; is = s })

access_takes : (args : List ℕ) (v : FileCall) → IsBytes args → access_call_at args ≡ Ok v → SpellsFileCall 4 v args
unfolding access_call_at
access_takes = made_takes (SpellsFileCall 4) (λ v. calls.Access v.file v.bits) (whole_codec access_args_codec) (λ a args s. record { names = refl; is = s })

read_takes : (args : List ℕ) (v : FileCall) → IsBytes args → read_call_at args ≡ Ok v → SpellsFileCall 6 v args
unfolding read_call_at
read_takes = made_takes (SpellsFileCall 6) (λ v. calls.Read v.file v.offset v.count) (whole_codec range_args_codec) (λ a args s. record { names = refl; is = s })

write_takes : (args : List ℕ) (v : FileCall) → IsBytes args → write_call_at args ≡ Ok v → SpellsFileCall 7 v args
unfolding write_call_at
write_takes = made_takes (SpellsFileCall 7) (λ v. calls.Write v.file v.offset v.how v.bytes) (whole_codec write_args_codec) (λ a args s. record { names = refl; is = s })

fs_stat_takes : (args : List ℕ) (v : FileCall) → IsBytes args → fs_stat_call_at args ≡ Ok v → SpellsFileCall 18 v args
unfolding fs_stat_call_at
fs_stat_takes = made_takes (SpellsFileCall 18) (λ file. calls.FsStat file) (whole_codec handle_codec) (λ a args s. record { names = refl; is = s })

fs_info_takes : (args : List ℕ) (v : FileCall) → IsBytes args → fs_info_call_at args ≡ Ok v → SpellsFileCall 19 v args
unfolding fs_info_call_at
fs_info_takes = made_takes (SpellsFileCall 19) (λ file. calls.FsInfo file) (whole_codec handle_codec) (λ a args s. record { names = refl; is = s })

path_conf_takes : (args : List ℕ) (v : FileCall) → IsBytes args → path_conf_call_at args ≡ Ok v → SpellsFileCall 20 v args
unfolding path_conf_call_at
path_conf_takes = made_takes (SpellsFileCall 20) (λ file. calls.PathConf file) (whole_codec handle_codec) (λ a args s. record { names = refl; is = s })

commit_takes : (args : List ℕ) (v : FileCall) → IsBytes args → commit_call_at args ≡ Ok v → SpellsFileCall 21 v args
unfolding commit_call_at
commit_takes = made_takes (SpellsFileCall 21) (λ v. calls.Commit v.file v.offset v.count) (whole_codec range_args_codec) (λ a args s. record { names = refl; is = s })

call_takes : (proc : ℕ) (args : List ℕ) (v : FileCall) → IsBytes args → file_call_at proc args ≡ Ok v → SpellsFileCall proc v args
call_takes proc args v fits =
    dispatch 0 proc _ _ v (λ p e. rw p (null_takes args v fits e)) (
    dispatch 1 proc _ _ v (λ p e. rw p (get_attr_takes args v fits e)) (
    dispatch 2 proc _ _ v (λ p e. rw p (set_attr_takes args v fits e)) (
    dispatch 4 proc _ _ v (λ p e. rw p (access_takes args v fits e)) (
    dispatch 6 proc _ _ v (λ p e. rw p (read_takes args v fits e)) (
    dispatch 7 proc _ _ v (λ p e. rw p (write_takes args v fits e)) (
    dispatch 18 proc _ _ v (λ p e. rw p (fs_stat_takes args v fits e)) (
    dispatch 19 proc _ _ v (λ p e. rw p (fs_info_takes args v fits e)) (
    dispatch 20 proc _ _ v (λ p e. rw p (path_conf_takes args v fits e)) (
    dispatch 21 proc _ _ v (λ p e. rw p (commit_takes args v fits e)) (
    nothing_read BadValue v))))))))))

pub call_again : (v : FileCall) (args : List ℕ) → SpellsFileArgs v args → file_call_at (file_proc v) args ≡ Ok v
unfolding null_call_at get_attr_call_at set_attr_call_at access_call_at read_call_at write_call_at fs_stat_call_at fs_info_call_at path_conf_call_at commit_call_at
call_again calls.Null args s = made_again (λ v. calls.Null) (whole_codec nothing_codec) tt args s
call_again (calls.GetAttr file) args s = made_again (λ file. calls.GetAttr file) (whole_codec handle_codec) file args s
call_again (calls.SetAttr file set guard) args s = made_again (λ v. calls.SetAttr v.file v.set v.guard) (whole_codec set_attr_args_codec) (record { file = file; set = set; guard = guard }) args s
call_again (calls.Access file bits) args s = made_again (λ v. calls.Access v.file v.bits) (whole_codec access_args_codec) (record { file = file; bits = bits }) args s
call_again (calls.Read file offset count) args s = made_again (λ v. calls.Read v.file v.offset v.count) (whole_codec range_args_codec) (record { file = file; offset = offset; count = count }) args s
call_again (calls.Write file offset how bytes) args s = made_again (λ v. calls.Write v.file v.offset v.how v.bytes) (whole_codec write_args_codec) (record { file = file; offset = offset; how = how; bytes = bytes }) args s
call_again (calls.FsStat file) args s = made_again (λ file. calls.FsStat file) (whole_codec handle_codec) file args s
call_again (calls.FsInfo file) args s = made_again (λ file. calls.FsInfo file) (whole_codec handle_codec) file args s
call_again (calls.PathConf file) args s = made_again (λ file. calls.PathConf file) (whole_codec handle_codec) file args s
call_again (calls.Commit file offset count) args s = made_again (λ v. calls.Commit v.file v.offset v.count) (whole_codec range_args_codec) (record { file = file; offset = offset; count = count }) args s

pub file_call_codec : (proc : ℕ) → WholeCodec (file_call_at proc) (SpellsFileCall proc)
file_call_codec proc = record {
  takes = call_takes proc;
  again = λ v args s. rw (← s.names) (call_again v args s.is);
}

-- a call that bytes spell has a spelling
pub call_has : (v : FileCall) (args : List ℕ) → SpellsFileArgs v args → HasSpellingCall v
call_has calls.Null args s = tt
call_has (calls.GetAttr file) args s = tt
call_has (calls.SetAttr file set guard) args s = tt
call_has (calls.Access file bits) args s = tt
call_has (calls.Read file offset count) args s = tt
call_has (calls.Write file offset how bytes) args s = (s.two.two.two.one.bound, s.two.two.two.two.two.bound)
call_has (calls.FsStat file) args s = tt
call_has (calls.FsInfo file) args s = tt
call_has (calls.PathConf file) args s = tt
call_has (calls.Commit file offset count) args s = tt

pub read_call_has : (proc : ℕ) (args : List ℕ) (result : Result FileCall CodecFault) → FindsOwned (SpellsFileCall proc) args result → IfOk result HasSpellingCall
read_call_has proc args (Ok v) f = call_has v args f.found.is
read_call_has proc args (Err e) f = tt
