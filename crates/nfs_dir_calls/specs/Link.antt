-- LINK (RFC 1813, section 3.3.15).
use Rattle.std.specs.Prelude.{ℕ, List, ◌++◌, Option, Result, Ok}
use Rattle.xdr_codec.specs.declared.reader.XdrFault.{XdrFault}
use Rattle.xdr_codec.specs.Reading.{◌>>=◌}
use Rattle.xdr_codec.specs.Whole.{whole_at}
use Rattle.xdr_codec.specs.Spelling.{u32_bytes}
use Rattle.xdr_codec.specs.Arms.{Arms, Done, Failure, arms_at}
use Rattle.nfs_types.specs.declared.attr.Attr.{Attr}
use Rattle.nfs_types.specs.declared.status.Status.{Status}
use Rattle.nfs_types.specs.declared.wcc.Wcc.{Wcc}
use Rattle.nfs_types.specs.Fields.{handle_at, opt_attr_at, opt_attr_bytes, wcc_at, wcc_bytes}
use Rattle.nfs_dir_calls.specs.declared.call.DirCall.{DirCall}
use Rattle.nfs_dir_calls.specs.declared.call.DirCall.TheVariants as calls
use Rattle.nfs_dir_calls.specs.declared.keeping.DirKept.{DirKept}
use Rattle.nfs_dir_calls.specs.declared.keeping.DirKept.TheVariants as kept
use Rattle.nfs_dir_calls.specs.Pairs.{◌▸◌}
use Rattle.nfs_dir_calls.specs.Places.{place_at}

-- the arguments: the file, and the place that it is to have too
unfoldable pub link_call_at : List ℕ → Result DirCall XdrFault
link_call_at args = whole_at (handle_at ▸ place_at) args >>= λ v. Ok (calls.Link v.0 v.1.dir v.1.name)

-- the results, at any status: the file's attributes, and the directory before and after
abbrev pub link_of : Arms (Option Attr × Wcc) (Option Attr × Wcc) → DirKept
link_of (Done v) = kept.Link v.0 v.1
link_of (Failure status v) = kept.LinkFail (record { 0 = status }) v.0 v.1

unfoldable pub link_at : List ℕ → Result DirKept XdrFault
link_at results = whole_at (arms_at (opt_attr_at ▸ wcc_at) (opt_attr_at ▸ wcc_at)) results >>= λ v. Ok (link_of v)

unfoldable pub link_bytes : Status → Option Attr → Wcc → List ℕ
link_bytes status attr wcc = u32_bytes status.0 ++ opt_attr_bytes attr ++ wcc_bytes wcc
