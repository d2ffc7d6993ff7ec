-- RENAME (RFC 1813, section 3.3.14).
use Rattle.std.specs.Prelude.{ℕ, List, ◌++◌, Result, Ok}
use Rattle.xdr_codec.specs.declared.reader.XdrFault.{XdrFault}
use Rattle.xdr_codec.specs.Reading.{◌>>=◌}
use Rattle.xdr_codec.specs.Whole.{whole_at}
use Rattle.xdr_codec.specs.Spelling.{u32_bytes}
use Rattle.xdr_codec.specs.Arms.{Arms, Done, Failure, arms_at}
use Rattle.nfs_types.specs.declared.status.Status.{Status}
use Rattle.nfs_types.specs.declared.wcc.Wcc.{Wcc}
use Rattle.nfs_types.specs.Fields.{wcc_at, wcc_bytes}
use Rattle.nfs_dir_calls.specs.declared.call.DirCall.{DirCall}
use Rattle.nfs_dir_calls.specs.declared.call.DirCall.TheVariants as calls
use Rattle.nfs_dir_calls.specs.declared.keeping.DirKept.{DirKept}
use Rattle.nfs_dir_calls.specs.declared.keeping.DirKept.TheVariants as kept
use Rattle.nfs_dir_calls.specs.Pairs.{◌▸◌}
use Rattle.nfs_dir_calls.specs.Places.{place_at}

-- the arguments: the place that the name has, and the one that it is to have
unfoldable pub rename_call_at : List ℕ → Result DirCall XdrFault
rename_call_at args = whole_at (place_at ▸ place_at) args >>= λ v. Ok (calls.Rename v.0.dir v.0.name v.1.dir v.1.name)

-- the results, at any status: the first directory before and after, and the second
abbrev pub rename_of : Arms (Wcc × Wcc) (Wcc × Wcc) → DirKept
rename_of (Done v) = kept.Rename v.0 v.1
rename_of (Failure status v) = kept.RenameFail (record { 0 = status }) v.0 v.1

unfoldable pub rename_at : List ℕ → Result DirKept XdrFault
rename_at results = whole_at (arms_at (wcc_at ▸ wcc_at) (wcc_at ▸ wcc_at)) results >>= λ v. Ok (rename_of v)

unfoldable pub rename_bytes : Status → Wcc → Wcc → List ℕ
rename_bytes status source target = u32_bytes status.0 ++ wcc_bytes source ++ wcc_bytes target
