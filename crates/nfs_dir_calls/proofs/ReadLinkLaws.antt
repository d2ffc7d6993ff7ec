-- READLINK: what is read is spelled so, and what is spelled so is read.
use Rattle.std.proofs.Common.{◌≡◌, ℕ, List, Option, Ok, refl}
use Rattle.xdr_codec.specs.Reading.{opaque_at}
use Rattle.xdr_codec.specs.Bytes.{IsBytes}
use Rattle.xdr_codec.specs.Spells.{◌⨾◌, SpellsOpaque}
use Rattle.xdr_codec.specs.Whole.{whole_at}
use Rattle.xdr_codec.specs.Arms.{Arms, Done, Failure, arms_at, SpellsArms}
use Rattle.xdr_codec.proofs.MoreLaws.{arms_codec, opaque_codec}
use Rattle.xdr_codec.proofs.WholeLaws.{WholeCodec, whole_codec}
use Rattle.nfs_types.specs.declared.attr.Attr.{Attr}
use Rattle.nfs_types.specs.Fields.{opt_attr_at}
use Rattle.nfs_types.specs.Spells.{SpellsOptAttr}
use Rattle.nfs_types.proofs.Laws.{handle_codec, opt_attr_codec}
use Rattle.nfs_dir_calls.specs.declared.call.DirCall.{DirCall}
use Rattle.nfs_dir_calls.specs.declared.keeping.DirKept.{DirKept}
use Rattle.nfs_dir_calls.specs.Pairs.{◌▸◌}
use Rattle.nfs_dir_calls.specs.ReadLink.{readlink_call_at, readlink_of, readlink_at}
use Rattle.nfs_dir_calls.specs.Calls.{SpellsDirCall, SpellsDirCallOf}
use Rattle.nfs_dir_calls.specs.Replies.{SpellsDirReply}
use Rattle.nfs_dir_calls.proofs.Readers.{pair_codec, made_takes, made_again}
use Rattle.nfs_dir_calls.specs.declared.call.DirCall.TheVariants as calls

-- ---- READLINK: the arguments

pub readlink_call_takes : (args : List ℕ) (v : DirCall) → IsBytes args → readlink_call_at args ≡ Ok v → SpellsDirCallOf 5 v args
unfolding readlink_call_at
readlink_call_takes args v fits e = made_takes (SpellsDirCallOf 5) (λ v. calls.ReadLink v) (whole_codec handle_codec) (λ v bytes s. record { of = refl; is = s }) args v fits e

pub readlink_call_again : (file : List ℕ) (args : List ℕ) → SpellsDirCall (calls.ReadLink file) args → readlink_call_at args ≡ Ok (calls.ReadLink file)
unfolding readlink_call_at
readlink_call_again file args s = made_again (λ v. calls.ReadLink v) (whole_codec handle_codec) (file) args s

-- ---- READLINK: the results

abbrev pub ReadLinkArms : Type 0
ReadLinkArms = Arms (Option Attr × List ℕ) (Option Attr)

abbrev pub SpellsReadLinkArms : ReadLinkArms → List ℕ → Type 0
SpellsReadLinkArms = SpellsArms (λ v. SpellsOptAttr v.0 ⨾ SpellsOpaque 1024 v.1) (SpellsOptAttr)

readlink_codec : WholeCodec (whole_at (arms_at (opt_attr_at ▸ opaque_at 1024) opt_attr_at)) SpellsReadLinkArms
readlink_codec = whole_codec (arms_codec (pair_codec opt_attr_codec (opaque_codec 1024)) opt_attr_codec)

readlink_is : (a : ReadLinkArms) (results : List ℕ) → SpellsReadLinkArms a results → SpellsDirReply 5 (readlink_of a) results
readlink_is (Done v) results s = record { of = refl; is = s }
readlink_is (Failure status v) results s = record { of = refl; is = s }

pub readlink_takes : (results : List ℕ) (v : DirKept) → IsBytes results → readlink_at results ≡ Ok v → SpellsDirReply 5 v results
unfolding readlink_at
readlink_takes results v fits e = made_takes (SpellsDirReply 5) readlink_of readlink_codec readlink_is results v fits e

pub readlink_again : (a : ReadLinkArms) (results : List ℕ) → SpellsReadLinkArms a results → readlink_at results ≡ Ok (readlink_of a)
unfolding readlink_at
readlink_again a results s = made_again readlink_of readlink_codec a results s
