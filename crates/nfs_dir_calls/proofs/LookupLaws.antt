-- LOOKUP: what is read is spelled so, and what is spelled so is read.
use Rattle.std.proofs.Common.{◌≡◌, ℕ, List, Option, Ok, refl}
use Rattle.xdr_codec.specs.Bytes.{IsBytes}
use Rattle.xdr_codec.specs.Spells.{◌⨾◌}
use Rattle.xdr_codec.specs.Whole.{whole_at}
use Rattle.xdr_codec.specs.Arms.{Arms, Done, Failure, arms_at, SpellsArms}
use Rattle.xdr_codec.proofs.MoreLaws.{arms_codec}
use Rattle.xdr_codec.proofs.WholeLaws.{WholeCodec, whole_codec}
use Rattle.nfs_types.specs.declared.attr.Attr.{Attr}
use Rattle.nfs_types.specs.Fields.{handle_at, opt_attr_at}
use Rattle.nfs_types.specs.Spells.{SpellsHandle, SpellsOptAttr}
use Rattle.nfs_types.proofs.Laws.{handle_codec, opt_attr_codec}
use Rattle.nfs_dir_calls.specs.declared.call.DirCall.{DirCall}
use Rattle.nfs_dir_calls.specs.declared.keeping.DirKept.{DirKept}
use Rattle.nfs_dir_calls.specs.Pairs.{◌▸◌}
use Rattle.nfs_dir_calls.specs.Lookup.{lookup_call_at, lookup_of, lookup_at}
use Rattle.nfs_dir_calls.specs.Calls.{SpellsDirCall, SpellsDirCallOf}
use Rattle.nfs_dir_calls.specs.Replies.{SpellsDirReply}
use Rattle.nfs_dir_calls.proofs.Readers.{pair_codec, made_takes, made_again}
use Rattle.nfs_dir_calls.proofs.Places.{place_codec}
use Rattle.nfs_dir_calls.specs.declared.call.DirCall.TheVariants as calls

-- ---- LOOKUP: the arguments

pub lookup_call_takes : (args : List ℕ) (v : DirCall) → IsBytes args → lookup_call_at args ≡ Ok v → SpellsDirCallOf 3 v args
unfolding lookup_call_at
lookup_call_takes args v fits e = made_takes (SpellsDirCallOf 3) (λ v. calls.Lookup v.dir v.name) (whole_codec place_codec) (λ v bytes s. record { of = refl; is = s }) args v fits e

pub lookup_call_again : (dir : List ℕ) (name : List ℕ) (args : List ℕ) → SpellsDirCall (calls.Lookup dir name) args → lookup_call_at args ≡ Ok (calls.Lookup dir name)
unfolding lookup_call_at
lookup_call_again dir name args s = made_again (λ v. calls.Lookup v.dir v.name) (whole_codec place_codec) (record { dir = dir; name = name }) args s

-- ---- LOOKUP: the results

abbrev pub LookupArms : Type 0
LookupArms = Arms (List ℕ × (Option Attr × Option Attr)) (Option Attr)

abbrev pub SpellsLookupArms : LookupArms → List ℕ → Type 0
SpellsLookupArms = SpellsArms (λ v. SpellsHandle v.0 ⨾ SpellsOptAttr v.1.0 ⨾ SpellsOptAttr v.1.1) (SpellsOptAttr)

lookup_codec : WholeCodec (whole_at (arms_at (handle_at ▸ opt_attr_at ▸ opt_attr_at) opt_attr_at)) SpellsLookupArms
lookup_codec = whole_codec (arms_codec (pair_codec handle_codec (pair_codec opt_attr_codec opt_attr_codec)) opt_attr_codec)

lookup_is : (a : LookupArms) (results : List ℕ) → SpellsLookupArms a results → SpellsDirReply 3 (lookup_of a) results
lookup_is (Done v) results s = record { of = refl; is = s }
lookup_is (Failure status v) results s = record { of = refl; is = s }

pub lookup_takes : (results : List ℕ) (v : DirKept) → IsBytes results → lookup_at results ≡ Ok v → SpellsDirReply 3 v results
unfolding lookup_at
lookup_takes results v fits e = made_takes (SpellsDirReply 3) lookup_of lookup_codec lookup_is results v fits e

pub lookup_again : (a : LookupArms) (results : List ℕ) → SpellsLookupArms a results → lookup_at results ≡ Ok (lookup_of a)
unfolding lookup_at
lookup_again a results s = made_again lookup_of lookup_codec a results s
