-- MKDIR: what is read is spelled so, and what is spelled so is read.
use Rattle.std.proofs.Common.{◌≡◌, ℕ, List, Ok, refl}
use Rattle.xdr_codec.specs.Bytes.{IsBytes}
use Rattle.xdr_codec.specs.Arms.{Done, Failure}
use Rattle.xdr_codec.proofs.WholeLaws.{whole_codec}
use Rattle.nfs_types.specs.declared.set_attr.SetAttr.{SetAttr}
use Rattle.nfs_types.proofs.Laws.{set_attr_codec}
use Rattle.nfs_dir_calls.specs.declared.call.DirCall.{DirCall}
use Rattle.nfs_dir_calls.specs.declared.keeping.DirKept.{DirKept}
use Rattle.nfs_dir_calls.specs.MkDir.{mkdir_call_at, mkdir_of, mkdir_at}
use Rattle.nfs_dir_calls.specs.Calls.{SpellsDirCall, SpellsDirCallOf}
use Rattle.nfs_dir_calls.specs.Replies.{SpellsDirReply}
use Rattle.nfs_dir_calls.proofs.Readers.{pair_codec, made_takes, made_again}
use Rattle.nfs_dir_calls.proofs.Places.{place_codec}
use Rattle.nfs_dir_calls.proofs.NewObjects.{NewObjects, SpellsNewObjects, new_object_codec}
use Rattle.nfs_dir_calls.specs.declared.call.DirCall.TheVariants as calls

-- ---- MKDIR: the arguments

pub mkdir_call_takes : (args : List ℕ) (v : DirCall) → IsBytes args → mkdir_call_at args ≡ Ok v → SpellsDirCallOf 9 v args
unfolding mkdir_call_at
mkdir_call_takes args v fits e = made_takes (SpellsDirCallOf 9) (λ v. calls.MkDir v.0.dir v.0.name v.1) (whole_codec (pair_codec place_codec set_attr_codec)) (λ v bytes s. record { of = refl; is = s }) args v fits e

pub mkdir_call_again : (dir : List ℕ) (name : List ℕ) (set : SetAttr) (args : List ℕ) → SpellsDirCall (calls.MkDir dir name set) args → mkdir_call_at args ≡ Ok (calls.MkDir dir name set)
unfolding mkdir_call_at
mkdir_call_again dir name set args s = made_again (λ v. calls.MkDir v.0.dir v.0.name v.1) (whole_codec (pair_codec place_codec set_attr_codec)) ((record { dir = dir; name = name }, set)) args s

-- ---- MKDIR: the results

mkdir_is : (a : NewObjects) (results : List ℕ) → SpellsNewObjects a results → SpellsDirReply 9 (mkdir_of a) results
mkdir_is (Done v) results s = record { of = refl; is = s }
mkdir_is (Failure status v) results s = record { of = refl; is = s }

pub mkdir_takes : (results : List ℕ) (v : DirKept) → IsBytes results → mkdir_at results ≡ Ok v → SpellsDirReply 9 v results
unfolding mkdir_at
mkdir_takes results v fits e = made_takes (SpellsDirReply 9) mkdir_of new_object_codec mkdir_is results v fits e

pub mkdir_again : (a : NewObjects) (results : List ℕ) → SpellsNewObjects a results → mkdir_at results ≡ Ok (mkdir_of a)
unfolding mkdir_at
mkdir_again a results s = made_again mkdir_of new_object_codec a results s
