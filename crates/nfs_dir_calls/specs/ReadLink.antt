-- READLINK (RFC 1813, section 3.3.5).
use Rattle.std.specs.Prelude.{ℕ, List, ◌++◌, Option, Result, Ok}
use Rattle.xdr_codec.specs.declared.reader.XdrFault.{XdrFault}
use Rattle.xdr_codec.specs.Reading.{◌>>=◌, opaque_at}
use Rattle.xdr_codec.specs.Whole.{whole_at}
use Rattle.xdr_codec.specs.Spelling.{u32_bytes, opaque_bytes}
use Rattle.xdr_codec.specs.Arms.{Arms, Done, Failure, arms_at}
use Rattle.nfs_types.specs.declared.attr.Attr.{Attr}
use Rattle.nfs_types.specs.Fields.{handle_at, opt_attr_at, opt_attr_bytes}
use Rattle.nfs_dir_calls.specs.declared.call.DirCall.{DirCall}
use Rattle.nfs_dir_calls.specs.declared.call.DirCall.TheVariants as calls
use Rattle.nfs_dir_calls.specs.declared.keeping.DirKept.{DirKept}
use Rattle.nfs_dir_calls.specs.declared.keeping.DirKept.TheVariants as kept
use Rattle.nfs_dir_calls.specs.Pairs.{◌▸◌}

-- the arguments: the link's file handle
unfoldable pub readlink_call_at : List ℕ → Result DirCall XdrFault
readlink_call_at args = whole_at handle_at args >>= λ v. Ok (calls.ReadLink v)

-- the results: the link's attributes and its text; in failure the attributes
abbrev pub readlink_of : Arms (Option Attr × List ℕ) (Option Attr) → DirKept
readlink_of (Done v) = kept.ReadLink v.0 v.1
readlink_of (Failure status attr) = kept.ReadLinkFail (record { 0 = status }) attr

unfoldable pub readlink_at : List ℕ → Result DirKept XdrFault
readlink_at results = whole_at (arms_at (opt_attr_at ▸ opaque_at 1024) opt_attr_at) results >>= λ v. Ok (readlink_of v)

unfoldable pub readlink_bytes : Option Attr → List ℕ → List ℕ
readlink_bytes attr text = u32_bytes 0 ++ opt_attr_bytes attr ++ opaque_bytes text
