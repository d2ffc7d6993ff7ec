-- MKNOD: what is read is spelled so, and what is spelled so is read.
use Rattle.std.proofs.Common.{◌≡◌, ℕ, List, Ok, refl}
use Rattle.xdr_codec.specs.Bytes.{IsBytes}
use Rattle.xdr_codec.specs.Arms.{Done, Failure}
use Rattle.xdr_codec.proofs.WholeLaws.{whole_codec}
use Rattle.nfs_dir_calls.specs.declared.call.DirCall.{DirCall}
use Rattle.nfs_dir_calls.specs.declared.keeping.DirKept.{DirKept}
use Rattle.nfs_dir_calls.specs.declared.mknod.Node.{Node}
use Rattle.nfs_dir_calls.specs.MkNod.{mknod_call_at, mknod_of, mknod_at}
use Rattle.nfs_dir_calls.specs.Calls.{SpellsDirCall, SpellsDirCallOf}
use Rattle.nfs_dir_calls.specs.Replies.{SpellsDirReply}
use Rattle.nfs_dir_calls.proofs.Readers.{pair_codec, made_takes, made_again}
use Rattle.nfs_dir_calls.proofs.Places.{place_codec}
use Rattle.nfs_dir_calls.proofs.Nodes.{node_codec}
use Rattle.nfs_dir_calls.proofs.NewObjects.{NewObjects, SpellsNewObjects, new_object_codec}
use Rattle.nfs_dir_calls.specs.declared.call.DirCall.TheVariants as calls

-- ---- MKNOD: the arguments

pub mknod_call_takes : (args : List ℕ) (v : DirCall) → IsBytes args → mknod_call_at args ≡ Ok v → SpellsDirCallOf 11 v args
unfolding mknod_call_at
mknod_call_takes args v fits e = made_takes (SpellsDirCallOf 11) (λ v. calls.MkNod v.0.dir v.0.name v.1) (whole_codec (pair_codec place_codec node_codec)) (λ v bytes s. record { of = refl; is = s }) args v fits e

pub mknod_call_again : (dir : List ℕ) (name : List ℕ) (node : Node) (args : List ℕ) → SpellsDirCall (calls.MkNod dir name node) args → mknod_call_at args ≡ Ok (calls.MkNod dir name node)
unfolding mknod_call_at
mknod_call_again dir name node args s = made_again (λ v. calls.MkNod v.0.dir v.0.name v.1) (whole_codec (pair_codec place_codec node_codec)) ((record { dir = dir; name = name }, node)) args s

-- ---- MKNOD: the results

mknod_is : (a : NewObjects) (results : List ℕ) → SpellsNewObjects a results → SpellsDirReply 11 (mknod_of a) results
mknod_is (Done v) results s = record { of = refl; is = s }
mknod_is (Failure status v) results s = record { of = refl; is = s }

pub mknod_takes : (results : List ℕ) (v : DirKept) → IsBytes results → mknod_at results ≡ Ok v → SpellsDirReply 11 v results
unfolding mknod_at
mknod_takes results v fits e = made_takes (SpellsDirReply 11) mknod_of new_object_codec mknod_is results v fits e

pub mknod_again : (a : NewObjects) (results : List ℕ) → SpellsNewObjects a results → mknod_at results ≡ Ok (mknod_of a)
unfolding mknod_at
mknod_again a results s = made_again mknod_of new_object_codec a results s
