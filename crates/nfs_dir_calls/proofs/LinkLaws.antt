-- LINK: what is read is spelled so, and what is spelled so is read.
use Rattle.std.proofs.Common.{◌≡◌, ℕ, List, Option, Ok, refl}
use Rattle.xdr_codec.specs.Bytes.{IsBytes}
use Rattle.xdr_codec.specs.Spells.{◌⨾◌}
use Rattle.xdr_codec.specs.Whole.{whole_at}
use Rattle.xdr_codec.specs.Arms.{Arms, Done, Failure, arms_at, SpellsArms}
use Rattle.xdr_codec.proofs.MoreLaws.{arms_codec}
use Rattle.xdr_codec.proofs.WholeLaws.{WholeCodec, whole_codec}
use Rattle.nfs_types.specs.declared.attr.Attr.{Attr}
use Rattle.nfs_types.specs.declared.wcc.Wcc.{Wcc}
use Rattle.nfs_types.specs.Fields.{opt_attr_at, wcc_at}
use Rattle.nfs_types.specs.Spells.{SpellsOptAttr, SpellsWcc}
use Rattle.nfs_types.proofs.Laws.{handle_codec, opt_attr_codec, wcc_codec}
use Rattle.nfs_dir_calls.specs.declared.call.DirCall.{DirCall}
use Rattle.nfs_dir_calls.specs.declared.keeping.DirKept.{DirKept}
use Rattle.nfs_dir_calls.specs.Pairs.{◌▸◌}
use Rattle.nfs_dir_calls.specs.Link.{link_call_at, link_of, link_at}
use Rattle.nfs_dir_calls.specs.Calls.{SpellsDirCall, SpellsDirCallOf}
use Rattle.nfs_dir_calls.specs.Replies.{SpellsDirReply}
use Rattle.nfs_dir_calls.proofs.Readers.{pair_codec, made_takes, made_again}
use Rattle.nfs_dir_calls.proofs.Places.{place_codec}
use Rattle.nfs_dir_calls.specs.declared.call.DirCall.TheVariants as calls

-- ---- LINK: the arguments

pub link_call_takes : (args : List ℕ) (v : DirCall) → IsBytes args → link_call_at args ≡ Ok v → SpellsDirCallOf 15 v args
unfolding link_call_at
link_call_takes args v fits e = made_takes (SpellsDirCallOf 15) (λ v. calls.Link v.0 v.1.dir v.1.name) (whole_codec (pair_codec handle_codec place_codec)) (λ v bytes s. record { of = refl; is = s }) args v fits e

pub link_call_again : (file : List ℕ) (dir : List ℕ) (name : List ℕ) (args : List ℕ) → SpellsDirCall (calls.Link file dir name) args → link_call_at args ≡ Ok (calls.Link file dir name)
unfolding link_call_at
link_call_again file dir name args s = made_again (λ v. calls.Link v.0 v.1.dir v.1.name) (whole_codec (pair_codec handle_codec place_codec)) ((file, record { dir = dir; name = name })) args s

-- ---- LINK: the results

abbrev pub LinkArms : Type 0
LinkArms = Arms (Option Attr × Wcc) (Option Attr × Wcc)

abbrev pub SpellsLinkArms : LinkArms → List ℕ → Type 0
SpellsLinkArms = SpellsArms (λ v. SpellsOptAttr v.0 ⨾ SpellsWcc v.1) (λ v. SpellsOptAttr v.0 ⨾ SpellsWcc v.1)

link_codec : WholeCodec (whole_at (arms_at (opt_attr_at ▸ wcc_at) (opt_attr_at ▸ wcc_at))) SpellsLinkArms
link_codec = whole_codec (arms_codec (pair_codec opt_attr_codec wcc_codec) (pair_codec opt_attr_codec wcc_codec))

link_is : (a : LinkArms) (results : List ℕ) → SpellsLinkArms a results → SpellsDirReply 15 (link_of a) results
link_is (Done v) results s = record { of = refl; is = s }
link_is (Failure status v) results s = record { of = refl; is = s }

pub link_takes : (results : List ℕ) (v : DirKept) → IsBytes results → link_at results ≡ Ok v → SpellsDirReply 15 v results
unfolding link_at
link_takes results v fits e = made_takes (SpellsDirReply 15) link_of link_codec link_is results v fits e

pub link_again : (a : LinkArms) (results : List ℕ) → SpellsLinkArms a results → link_at results ≡ Ok (link_of a)
unfolding link_at
link_again a results s = made_again link_of link_codec a results s
