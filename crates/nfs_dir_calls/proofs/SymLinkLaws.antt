-- SYMLINK: what is read is spelled so, and what is spelled so is read.
use Rattle.std.proofs.Common.{◌≡◌, ℕ, List, Ok, refl}
use Rattle.xdr_codec.specs.Bytes.{IsBytes}
use Rattle.xdr_codec.specs.Arms.{Done, Failure}
use Rattle.xdr_codec.proofs.MoreLaws.{opaque_codec}
use Rattle.xdr_codec.proofs.WholeLaws.{whole_codec}
use Rattle.nfs_types.specs.declared.set_attr.SetAttr.{SetAttr}
use Rattle.nfs_types.proofs.Laws.{set_attr_codec}
use Rattle.nfs_dir_calls.specs.declared.call.DirCall.{DirCall}
use Rattle.nfs_dir_calls.specs.declared.keeping.DirKept.{DirKept}
use Rattle.nfs_dir_calls.specs.SymLink.{symlink_call_at, symlink_of, symlink_at}
use Rattle.nfs_dir_calls.specs.Calls.{SpellsDirCall, SpellsDirCallOf}
use Rattle.nfs_dir_calls.specs.Replies.{SpellsDirReply}
use Rattle.nfs_dir_calls.proofs.Readers.{pair_codec, made_takes, made_again}
use Rattle.nfs_dir_calls.proofs.Places.{place_codec}
use Rattle.nfs_dir_calls.proofs.NewObjects.{NewObjects, SpellsNewObjects, new_object_codec}
use Rattle.nfs_dir_calls.specs.declared.call.DirCall.TheVariants as calls

-- ---- SYMLINK: the arguments

pub symlink_call_takes : (args : List ℕ) (v : DirCall) → IsBytes args → symlink_call_at args ≡ Ok v → SpellsDirCallOf 10 v args
unfolding symlink_call_at
symlink_call_takes args v fits e = made_takes (SpellsDirCallOf 10) (λ v. calls.SymLink v.0.dir v.0.name v.1.0 v.1.1) (whole_codec (pair_codec place_codec (pair_codec set_attr_codec (opaque_codec 1024)))) (λ v bytes s. record { of = refl; is = s }) args v fits e

pub symlink_call_again : (dir : List ℕ) (name : List ℕ) (set : SetAttr) (target : List ℕ) (args : List ℕ) → SpellsDirCall (calls.SymLink dir name set target) args → symlink_call_at args ≡ Ok (calls.SymLink dir name set target)
unfolding symlink_call_at
symlink_call_again dir name set target args s = made_again (λ v. calls.SymLink v.0.dir v.0.name v.1.0 v.1.1) (whole_codec (pair_codec place_codec (pair_codec set_attr_codec (opaque_codec 1024)))) ((record { dir = dir; name = name }, (set, target))) args s

-- ---- SYMLINK: the results

symlink_is : (a : NewObjects) (results : List ℕ) → SpellsNewObjects a results → SpellsDirReply 10 (symlink_of a) results
symlink_is (Done v) results s = record { of = refl; is = s }
symlink_is (Failure status v) results s = record { of = refl; is = s }

pub symlink_takes : (results : List ℕ) (v : DirKept) → IsBytes results → symlink_at results ≡ Ok v → SpellsDirReply 10 v results
unfolding symlink_at
symlink_takes results v fits e = made_takes (SpellsDirReply 10) symlink_of new_object_codec symlink_is results v fits e

pub symlink_again : (a : NewObjects) (results : List ℕ) → SpellsNewObjects a results → symlink_at results ≡ Ok (symlink_of a)
unfolding symlink_at
symlink_again a results s = made_again symlink_of new_object_codec a results s
