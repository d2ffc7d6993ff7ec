-- READDIRPLUS: what is read is spelled so, and what is spelled so is read.
use Rattle.std.proofs.Common.{◌≡◌, ℕ, List, Bool, Option, Ok, refl}
use Rattle.xdr_codec.specs.Reading.{flag_at}
use Rattle.xdr_codec.specs.Bytes.{IsBytes}
use Rattle.xdr_codec.specs.Spells.{◌⨾◌, SpellsFlag, SpellsList}
use Rattle.xdr_codec.specs.Whole.{whole_at}
use Rattle.xdr_codec.specs.Arms.{Arms, Done, Failure, arms_at, SpellsArms}
use Rattle.xdr_codec.proofs.Laws.{u32_codec, u64_codec}
use Rattle.xdr_codec.proofs.MoreLaws.{arms_codec, flag_codec}
use Rattle.xdr_codec.proofs.WholeLaws.{WholeCodec, whole_codec}
use Rattle.nfs_types.specs.declared.attr.Attr.{Attr}
use Rattle.nfs_types.specs.declared.verf.Verf.{Verf}
use Rattle.nfs_types.specs.Fields.{opt_attr_at, verf_at}
use Rattle.nfs_types.specs.Spells.{SpellsOptAttr, SpellsVerf}
use Rattle.nfs_types.proofs.Laws.{handle_codec, opt_attr_codec, verf_codec}
use Rattle.nfs_dir_calls.specs.declared.call.DirCall.{DirCall}
use Rattle.nfs_dir_calls.specs.declared.keeping.DirKept.{DirKept}
use Rattle.nfs_dir_calls.specs.declared.plus_page.PlusRow.{PlusRow}
use Rattle.nfs_dir_calls.specs.Pairs.{◌▸◌}
use Rattle.nfs_dir_calls.specs.Pages.{page_at}
use Rattle.nfs_dir_calls.specs.PlusPages.{plus_row_at, SpellsPlusRow}
use Rattle.nfs_dir_calls.specs.ReadDirPlus.{readdirplus_call_at, readdirplus_of, readdirplus_at}
use Rattle.nfs_dir_calls.specs.Calls.{SpellsDirCall, SpellsDirCallOf}
use Rattle.nfs_dir_calls.specs.Replies.{SpellsDirReply}
use Rattle.nfs_dir_calls.proofs.Readers.{pair_codec, made_takes, made_again}
use Rattle.nfs_dir_calls.proofs.Pages.{page_codec}
use Rattle.nfs_dir_calls.proofs.PlusPages.{plus_row_codec}
use Rattle.nfs_dir_calls.specs.declared.call.DirCall.TheVariants as calls

-- ---- READDIRPLUS: the arguments

pub readdirplus_call_takes : (args : List ℕ) (v : DirCall) → IsBytes args → readdirplus_call_at args ≡ Ok v → SpellsDirCallOf 17 v args
unfolding readdirplus_call_at
readdirplus_call_takes args v fits e = made_takes (SpellsDirCallOf 17) (λ v. calls.ReadDirPlus v.0 v.1.0 v.1.1.0 v.1.1.1.0 v.1.1.1.1) (whole_codec (pair_codec handle_codec (pair_codec u64_codec (pair_codec verf_codec (pair_codec u32_codec u32_codec))))) (λ v bytes s. record { of = refl; is = s }) args v fits e

pub readdirplus_call_again : (dir : List ℕ) (cookie : ℕ) (verf : Verf) (dircount : ℕ) (maxcount : ℕ) (args : List ℕ) → SpellsDirCall (calls.ReadDirPlus dir cookie verf dircount maxcount) args → readdirplus_call_at args ≡ Ok (calls.ReadDirPlus dir cookie verf dircount maxcount)
unfolding readdirplus_call_at
readdirplus_call_again dir cookie verf dircount maxcount args s = made_again (λ v. calls.ReadDirPlus v.0 v.1.0 v.1.1.0 v.1.1.1.0 v.1.1.1.1) (whole_codec (pair_codec handle_codec (pair_codec u64_codec (pair_codec verf_codec (pair_codec u32_codec u32_codec))))) ((dir, (cookie, (verf, (dircount, maxcount))))) args s

-- ---- READDIRPLUS: the results

abbrev pub ReadDirPlusArms : Type 0
ReadDirPlusArms = Arms (Option Attr × (Verf × (List PlusRow × Bool))) (Option Attr)

abbrev pub SpellsReadDirPlusArms : ReadDirPlusArms → List ℕ → Type 0
SpellsReadDirPlusArms = SpellsArms (λ v. SpellsOptAttr v.0 ⨾ SpellsVerf v.1.0 ⨾ SpellsList SpellsPlusRow v.1.1.0 ⨾ SpellsFlag v.1.1.1) (SpellsOptAttr)

readdirplus_codec : WholeCodec (whole_at (arms_at (opt_attr_at ▸ verf_at ▸ page_at plus_row_at ▸ flag_at) opt_attr_at)) SpellsReadDirPlusArms
readdirplus_codec = whole_codec (arms_codec (pair_codec opt_attr_codec (pair_codec verf_codec (pair_codec (page_codec plus_row_codec) flag_codec))) opt_attr_codec)

readdirplus_is : (a : ReadDirPlusArms) (results : List ℕ) → SpellsReadDirPlusArms a results → SpellsDirReply 17 (readdirplus_of a) results
readdirplus_is (Done v) results s = record { of = refl; is = s }
readdirplus_is (Failure status v) results s = record { of = refl; is = s }

pub readdirplus_takes : (results : List ℕ) (v : DirKept) → IsBytes results → readdirplus_at results ≡ Ok v → SpellsDirReply 17 v results
unfolding readdirplus_at
readdirplus_takes results v fits e = made_takes (SpellsDirReply 17) readdirplus_of readdirplus_codec readdirplus_is results v fits e

pub readdirplus_again : (a : ReadDirPlusArms) (results : List ℕ) → SpellsReadDirPlusArms a results → readdirplus_at results ≡ Ok (readdirplus_of a)
unfolding readdirplus_at
readdirplus_again a results s = made_again readdirplus_of readdirplus_codec a results s
