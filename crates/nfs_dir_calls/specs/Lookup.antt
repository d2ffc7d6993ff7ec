-- LOOKUP (RFC 1813, section 3.3.3).
use Rattle.std.specs.Prelude.{ℕ, List, ◌++◌, Option, Result, Ok}
use Rattle.xdr_codec.specs.declared.reader.XdrFault.{XdrFault}
use Rattle.xdr_codec.specs.Reading.{◌>>=◌}
use Rattle.xdr_codec.specs.Whole.{whole_at}
use Rattle.xdr_codec.specs.Spelling.{u32_bytes}
use Rattle.xdr_codec.specs.Arms.{Arms, Done, Failure, arms_at}
use Rattle.nfs_types.specs.declared.attr.Attr.{Attr}
use Rattle.nfs_types.specs.Fields.{handle_at, handle_bytes, opt_attr_at, opt_attr_bytes}
use Rattle.nfs_dir_calls.specs.declared.call.DirCall.{DirCall}
use Rattle.nfs_dir_calls.specs.declared.call.DirCall.TheVariants as calls
use Rattle.nfs_dir_calls.specs.declared.keeping.DirKept.{DirKept}
use Rattle.nfs_dir_calls.specs.declared.keeping.DirKept.TheVariants as kept
use Rattle.nfs_dir_calls.specs.Pairs.{◌▸◌}
use Rattle.nfs_dir_calls.specs.Places.{place_at}

-- the arguments: a place
unfoldable pub lookup_call_at : List ℕ → Result DirCall XdrFault
lookup_call_at args = whole_at place_at args >>= λ v. Ok (calls.Lookup v.dir v.name)

-- the results: the object found, its attributes and those of the directory; in failure those of the directory
abbrev pub lookup_of : Arms (List ℕ × (Option Attr × Option Attr)) (Option Attr) → DirKept
lookup_of (Done v) = kept.Lookup v.0 v.1.0 v.1.1
lookup_of (Failure status dir) = kept.LookupFail (record { 0 = status }) dir

unfoldable pub lookup_at : List ℕ → Result DirKept XdrFault
lookup_at results = whole_at (arms_at (handle_at ▸ opt_attr_at ▸ opt_attr_at) opt_attr_at) results >>= λ v. Ok (lookup_of v)

unfoldable pub lookup_bytes : List ℕ → Option Attr → Option Attr → List ℕ
lookup_bytes found attr dir = u32_bytes 0 ++ handle_bytes found ++ opt_attr_bytes attr ++ opt_attr_bytes dir
