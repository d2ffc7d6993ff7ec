-- CREATE: what is read is spelled so, and what is spelled so is read.
use Rattle.std.proofs.Common.{◌≡◌, ℕ, List, Ok, refl}
use Rattle.xdr_codec.specs.Bytes.{IsBytes}
use Rattle.xdr_codec.specs.Arms.{Done, Failure}
use Rattle.xdr_codec.proofs.WholeLaws.{whole_codec}
use Rattle.nfs_dir_calls.specs.declared.call.DirCall.{DirCall}
use Rattle.nfs_dir_calls.specs.declared.keeping.DirKept.{DirKept}
use Rattle.nfs_dir_calls.specs.declared.create.Making.{Making}
use Rattle.nfs_dir_calls.specs.Create.{create_call_at, create_of, create_at}
use Rattle.nfs_dir_calls.specs.Calls.{SpellsDirCall, SpellsDirCallOf}
use Rattle.nfs_dir_calls.specs.Replies.{SpellsDirReply}
use Rattle.nfs_dir_calls.proofs.Readers.{pair_codec, made_takes, made_again}
use Rattle.nfs_dir_calls.proofs.Places.{place_codec}
use Rattle.nfs_dir_calls.proofs.Makings.{making_codec}
use Rattle.nfs_dir_calls.proofs.NewObjects.{NewObjects, SpellsNewObjects, new_object_codec}
use Rattle.nfs_dir_calls.specs.declared.call.DirCall.TheVariants as calls

-- ---- CREATE: the arguments

pub create_call_takes : (args : List ℕ) (v : DirCall) → IsBytes args → create_call_at args ≡ Ok v → SpellsDirCallOf 8 v args
unfolding create_call_at
create_call_takes args v fits e = made_takes (SpellsDirCallOf 8) (λ v. calls.Create v.0.dir v.0.name v.1) (whole_codec (pair_codec place_codec making_codec)) (λ v bytes s. record { of = refl; is = s }) args v fits e

pub create_call_again : (dir : List ℕ) (name : List ℕ) (making : Making) (args : List ℕ) → SpellsDirCall (calls.Create dir name making) args → create_call_at args ≡ Ok (calls.Create dir name making)
unfolding create_call_at
create_call_again dir name making args s = made_again (λ v. calls.Create v.0.dir v.0.name v.1) (whole_codec (pair_codec place_codec making_codec)) ((record { dir = dir; name = name }, making)) args s

-- ---- CREATE: the results

create_is : (a : NewObjects) (results : List ℕ) → SpellsNewObjects a results → SpellsDirReply 8 (create_of a) results
create_is (Done v) results s = record { of = refl; is = s }
create_is (Failure status v) results s = record { of = refl; is = s }

pub create_takes : (results : List ℕ) (v : DirKept) → IsBytes results → create_at results ≡ Ok v → SpellsDirReply 8 v results
unfolding create_at
create_takes results v fits e = made_takes (SpellsDirReply 8) create_of new_object_codec create_is results v fits e

pub create_again : (a : NewObjects) (results : List ℕ) → SpellsNewObjects a results → create_at results ≡ Ok (create_of a)
unfolding create_at
create_again a results s = made_again create_of new_object_codec a results s
