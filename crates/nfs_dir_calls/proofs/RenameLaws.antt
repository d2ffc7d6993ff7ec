-- RENAME: what is read is spelled so, and what is spelled so is read.
use Rattle.std.proofs.Common.{◌≡◌, ℕ, List, Ok, refl}
use Rattle.xdr_codec.specs.Bytes.{IsBytes}
use Rattle.xdr_codec.specs.Spells.{◌⨾◌}
use Rattle.xdr_codec.specs.Whole.{whole_at}
use Rattle.xdr_codec.specs.Arms.{Arms, Done, Failure, arms_at, SpellsArms}
use Rattle.xdr_codec.proofs.MoreLaws.{arms_codec}
use Rattle.xdr_codec.proofs.WholeLaws.{WholeCodec, whole_codec}
use Rattle.nfs_types.specs.declared.wcc.Wcc.{Wcc}
use Rattle.nfs_types.specs.Fields.{wcc_at}
use Rattle.nfs_types.specs.Spells.{SpellsWcc}
use Rattle.nfs_types.proofs.Laws.{wcc_codec}
use Rattle.nfs_dir_calls.specs.declared.call.DirCall.{DirCall}
use Rattle.nfs_dir_calls.specs.declared.keeping.DirKept.{DirKept}
use Rattle.nfs_dir_calls.specs.Pairs.{◌▸◌}
use Rattle.nfs_dir_calls.specs.Rename.{rename_call_at, rename_of, rename_at}
use Rattle.nfs_dir_calls.specs.Calls.{SpellsDirCall, SpellsDirCallOf}
use Rattle.nfs_dir_calls.specs.Replies.{SpellsDirReply}
use Rattle.nfs_dir_calls.proofs.Readers.{pair_codec, made_takes, made_again}
use Rattle.nfs_dir_calls.proofs.Places.{place_codec}
use Rattle.nfs_dir_calls.specs.declared.call.DirCall.TheVariants as calls

-- ---- RENAME: the arguments

pub rename_call_takes : (args : List ℕ) (v : DirCall) → IsBytes args → rename_call_at args ≡ Ok v → SpellsDirCallOf 14 v args
unfolding rename_call_at
rename_call_takes args v fits e = made_takes (SpellsDirCallOf 14) (λ v. calls.Rename v.0.dir v.0.name v.1.dir v.1.name) (whole_codec (pair_codec place_codec place_codec)) (λ v bytes s. record { of = refl; is = s }) args v fits e

pub rename_call_again : (from_dir : List ℕ) («from» : List ℕ) (to_dir : List ℕ) (to : List ℕ) (args : List ℕ) → SpellsDirCall (calls.Rename from_dir «from» to_dir to) args → rename_call_at args ≡ Ok (calls.Rename from_dir «from» to_dir to)
unfolding rename_call_at
rename_call_again from_dir «from» to_dir to args s = made_again (λ v. calls.Rename v.0.dir v.0.name v.1.dir v.1.name) (whole_codec (pair_codec place_codec place_codec)) ((record { dir = from_dir; name = «from» }, record { dir = to_dir; name = to })) args s

-- ---- RENAME: the results

abbrev pub RenameArms : Type 0
RenameArms = Arms (Wcc × Wcc) (Wcc × Wcc)

abbrev pub SpellsRenameArms : RenameArms → List ℕ → Type 0
SpellsRenameArms = SpellsArms (λ v. SpellsWcc v.0 ⨾ SpellsWcc v.1) (λ v. SpellsWcc v.0 ⨾ SpellsWcc v.1)

rename_codec : WholeCodec (whole_at (arms_at (wcc_at ▸ wcc_at) (wcc_at ▸ wcc_at))) SpellsRenameArms
rename_codec = whole_codec (arms_codec (pair_codec wcc_codec wcc_codec) (pair_codec wcc_codec wcc_codec))

rename_is : (a : RenameArms) (results : List ℕ) → SpellsRenameArms a results → SpellsDirReply 14 (rename_of a) results
rename_is (Done v) results s = record { of = refl; is = s }
rename_is (Failure status v) results s = record { of = refl; is = s }

pub rename_takes : (results : List ℕ) (v : DirKept) → IsBytes results → rename_at results ≡ Ok v → SpellsDirReply 14 v results
unfolding rename_at
rename_takes results v fits e = made_takes (SpellsDirReply 14) rename_of rename_codec rename_is results v fits e

pub rename_again : (a : RenameArms) (results : List ℕ) → SpellsRenameArms a results → rename_at results ≡ Ok (rename_of a)
unfolding rename_at
rename_again a results s = made_again rename_of rename_codec a results s
