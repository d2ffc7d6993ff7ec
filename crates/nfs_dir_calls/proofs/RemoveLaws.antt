-- REMOVE, RMDIR: what is read is spelled so, and what is spelled so is read.
use Rattle.std.proofs.Common.{◌≡◌, ℕ, List, Ok, refl}
use Rattle.xdr_codec.specs.Bytes.{IsBytes}
use Rattle.xdr_codec.specs.Arms.{Done, Failure}
use Rattle.xdr_codec.proofs.WholeLaws.{whole_codec}
use Rattle.nfs_dir_calls.specs.declared.call.DirCall.{DirCall}
use Rattle.nfs_dir_calls.specs.declared.keeping.DirKept.{DirKept}
use Rattle.nfs_dir_calls.specs.Remove.{remove_call_at, remove_of, remove_at, rmdir_call_at, rmdir_of, rmdir_at}
use Rattle.nfs_dir_calls.specs.Calls.{SpellsDirCall, SpellsDirCallOf}
use Rattle.nfs_dir_calls.specs.Replies.{SpellsDirReply}
use Rattle.nfs_dir_calls.proofs.Readers.{made_takes, made_again}
use Rattle.nfs_dir_calls.proofs.Places.{place_codec}
use Rattle.nfs_dir_calls.proofs.ChangedArms.{Changes, SpellsChanges, changed_codec}
use Rattle.nfs_dir_calls.specs.declared.call.DirCall.TheVariants as calls

-- ---- REMOVE: the arguments

pub remove_call_takes : (args : List ℕ) (v : DirCall) → IsBytes args → remove_call_at args ≡ Ok v → SpellsDirCallOf 12 v args
unfolding remove_call_at
remove_call_takes args v fits e = made_takes (SpellsDirCallOf 12) (λ v. calls.Remove v.dir v.name) (whole_codec place_codec) (λ v bytes s. record { of = refl; is = s }) args v fits e

pub remove_call_again : (dir : List ℕ) (name : List ℕ) (args : List ℕ) → SpellsDirCall (calls.Remove dir name) args → remove_call_at args ≡ Ok (calls.Remove dir name)
unfolding remove_call_at
remove_call_again dir name args s = made_again (λ v. calls.Remove v.dir v.name) (whole_codec place_codec) (record { dir = dir; name = name }) args s

-- ---- REMOVE: the results

remove_is : (a : Changes) (results : List ℕ) → SpellsChanges a results → SpellsDirReply 12 (remove_of a) results
remove_is (Done v) results s = record { of = refl; is = s }
remove_is (Failure status v) results s = record { of = refl; is = s }

pub remove_takes : (results : List ℕ) (v : DirKept) → IsBytes results → remove_at results ≡ Ok v → SpellsDirReply 12 v results
unfolding remove_at
remove_takes results v fits e = made_takes (SpellsDirReply 12) remove_of changed_codec remove_is results v fits e

pub remove_again : (a : Changes) (results : List ℕ) → SpellsChanges a results → remove_at results ≡ Ok (remove_of a)
unfolding remove_at
remove_again a results s = made_again remove_of changed_codec a results s

-- ---- RMDIR: the arguments

pub rmdir_call_takes : (args : List ℕ) (v : DirCall) → IsBytes args → rmdir_call_at args ≡ Ok v → SpellsDirCallOf 13 v args
unfolding rmdir_call_at
rmdir_call_takes args v fits e = made_takes (SpellsDirCallOf 13) (λ v. calls.RmDir v.dir v.name) (whole_codec place_codec) (λ v bytes s. record { of = refl; is = s }) args v fits e

pub rmdir_call_again : (dir : List ℕ) (name : List ℕ) (args : List ℕ) → SpellsDirCall (calls.RmDir dir name) args → rmdir_call_at args ≡ Ok (calls.RmDir dir name)
unfolding rmdir_call_at
rmdir_call_again dir name args s = made_again (λ v. calls.RmDir v.dir v.name) (whole_codec place_codec) (record { dir = dir; name = name }) args s

-- ---- RMDIR: the results

rmdir_is : (a : Changes) (results : List ℕ) → SpellsChanges a results → SpellsDirReply 13 (rmdir_of a) results
rmdir_is (Done v) results s = record { of = refl; is = s }
rmdir_is (Failure status v) results s = record { of = refl; is = s }

pub rmdir_takes : (results : List ℕ) (v : DirKept) → IsBytes results → rmdir_at results ≡ Ok v → SpellsDirReply 13 v results
unfolding rmdir_at
rmdir_takes results v fits e = made_takes (SpellsDirReply 13) rmdir_of changed_codec rmdir_is results v fits e

pub rmdir_again : (a : Changes) (results : List ℕ) → SpellsChanges a results → rmdir_at results ≡ Ok (rmdir_of a)
unfolding rmdir_at
rmdir_again a results s = made_again rmdir_of changed_codec a results s
