-- READDIR: what is read is spelled so, and what is spelled so is read.
use Rattle.std.proofs.Common.{◌≡◌, ℕ, List, Bool, Option, Ok, refl}
use Rattle.xdr_codec.specs.Reading.{flag_at}
use Rattle.xdr_codec.specs.Bytes.{IsBytes}
use Rattle.xdr_codec.specs.Spells.{◌⨾◌, SpellsFlag, SpellsList}
use Rattle.xdr_codec.specs.Whole.{whole_at}
use Rattle.xdr_codec.specs.Arms.{Arms, Done, Failure, arms_at, SpellsArms}
use Rattle.xdr_codec.proofs.Laws.{u32_codec, u64_codec}
use Rattle.xdr_codec.proofs.MoreLaws.{arms_codec, flag_codec}
use Rattle.xdr_codec.proofs.WholeLaws.{WholeCodec, whole_codec}
use Rattle.nfs_types.specs.declared.attr.Attr.{Attr}
use Rattle.nfs_types.specs.declared.verf.Verf.{Verf}
use Rattle.nfs_types.specs.Fields.{opt_attr_at, verf_at}
use Rattle.nfs_types.specs.Spells.{SpellsOptAttr, SpellsVerf}
use Rattle.nfs_types.proofs.Laws.{handle_codec, opt_attr_codec, verf_codec}
use Rattle.nfs_dir_calls.specs.declared.call.DirCall.{DirCall}
use Rattle.nfs_dir_calls.specs.declared.keeping.DirKept.{DirKept}
use Rattle.nfs_dir_calls.specs.declared.dir_page.DirRow.{DirRow}
use Rattle.nfs_dir_calls.specs.Pairs.{◌▸◌}
use Rattle.nfs_dir_calls.specs.Pages.{page_at}
use Rattle.nfs_dir_calls.specs.DirPages.{dir_row_at, SpellsDirRow}
use Rattle.nfs_dir_calls.specs.ReadDir.{readdir_call_at, readdir_of, readdir_at}
use Rattle.nfs_dir_calls.specs.Calls.{SpellsDirCall, SpellsDirCallOf}
use Rattle.nfs_dir_calls.specs.Replies.{SpellsDirReply}
use Rattle.nfs_dir_calls.proofs.Readers.{pair_codec, made_takes, made_again}
use Rattle.nfs_dir_calls.proofs.Pages.{page_codec}
use Rattle.nfs_dir_calls.proofs.DirPages.{dir_row_codec}
use Rattle.nfs_dir_calls.specs.declared.call.DirCall.TheVariants as calls

-- ---- READDIR: the arguments

pub readdir_call_takes : (args : List ℕ) (v : DirCall) → IsBytes args → readdir_call_at args ≡ Ok v → SpellsDirCallOf 16 v args
unfolding readdir_call_at
readdir_call_takes args v fits e = made_takes (SpellsDirCallOf 16) (λ v. calls.ReadDir v.0 v.1.0 v.1.1.0 v.1.1.1) (whole_codec (pair_codec handle_codec (pair_codec u64_codec (pair_codec verf_codec u32_codec)))) (λ v bytes s. record { of = refl; is = s }) args v fits e

pub readdir_call_again : (dir : List ℕ) (cookie : ℕ) (verf : Verf) (count : ℕ) (args : List ℕ) → SpellsDirCall (calls.ReadDir dir cookie verf count) args → readdir_call_at args ≡ Ok (calls.ReadDir dir cookie verf count)
unfolding readdir_call_at
readdir_call_again dir cookie verf count args s = made_again (λ v. calls.ReadDir v.0 v.1.0 v.1.1.0 v.1.1.1) (whole_codec (pair_codec handle_codec (pair_codec u64_codec (pair_codec verf_codec u32_codec)))) ((dir, (cookie, (verf, count)))) args s

-- ---- READDIR: the results

abbrev pub ReadDirArms : Type 0
ReadDirArms = Arms (Option Attr × (Verf × (List DirRow × Bool))) (Option Attr)

abbrev pub SpellsReadDirArms : ReadDirArms → List ℕ → Type 0
SpellsReadDirArms = SpellsArms (λ v. SpellsOptAttr v.0 ⨾ SpellsVerf v.1.0 ⨾ SpellsList SpellsDirRow v.1.1.0 ⨾ SpellsFlag v.1.1.1) (SpellsOptAttr)

readdir_codec : WholeCodec (whole_at (arms_at (opt_attr_at ▸ verf_at ▸ page_at dir_row_at ▸ flag_at) opt_attr_at)) SpellsReadDirArms
readdir_codec = whole_codec (arms_codec (pair_codec opt_attr_codec (pair_codec verf_codec (pair_codec (page_codec dir_row_codec) flag_codec))) opt_attr_codec)

readdir_is : (a : ReadDirArms) (results : List ℕ) → SpellsReadDirArms a results → SpellsDirReply 16 (readdir_of a) results
readdir_is (Done v) results s = record { of = refl; is = s }
readdir_is (Failure status v) results s = record { of = refl; is = s }

pub readdir_takes : (results : List ℕ) (v : DirKept) → IsBytes results → readdir_at results ≡ Ok v → SpellsDirReply 16 v results
unfolding readdir_at
readdir_takes results v fits e = made_takes (SpellsDirReply 16) readdir_of readdir_codec readdir_is results v fits e

pub readdir_again : (a : ReadDirArms) (results : List ℕ) → SpellsReadDirArms a results → readdir_at results ≡ Ok (readdir_of a)
unfolding readdir_at
readdir_again a results s = made_again readdir_of readdir_codec a results s
