-- MKDIR (RFC 1813, section 3.3.9).
use Rattle.std.specs.Prelude.{ℕ, List, Option, Result, Ok}
use Rattle.xdr_codec.specs.declared.reader.XdrFault.{XdrFault}
use Rattle.xdr_codec.specs.Reading.{◌>>=◌}
use Rattle.xdr_codec.specs.Whole.{whole_at}
use Rattle.xdr_codec.specs.Arms.{Arms, Done, Failure}
use Rattle.nfs_types.specs.declared.attr.Attr.{Attr}
use Rattle.nfs_types.specs.declared.wcc.Wcc.{Wcc}
use Rattle.nfs_types.specs.Fields.{set_attr_at}
use Rattle.nfs_dir_calls.specs.declared.call.DirCall.{DirCall}
use Rattle.nfs_dir_calls.specs.declared.call.DirCall.TheVariants as calls
use Rattle.nfs_dir_calls.specs.declared.keeping.DirKept.{DirKept}
use Rattle.nfs_dir_calls.specs.declared.keeping.DirKept.TheVariants as kept
use Rattle.nfs_dir_calls.specs.Pairs.{◌▸◌}
use Rattle.nfs_dir_calls.specs.Places.{place_at}
use Rattle.nfs_dir_calls.specs.NewObjects.{new_object_at}

-- the arguments: a place, and the attributes to set
unfoldable pub mkdir_call_at : List ℕ → Result DirCall XdrFault
mkdir_call_at args = whole_at (place_at ▸ set_attr_at) args >>= λ v. Ok (calls.MkDir v.0.dir v.0.name v.1)

-- the results: what is answered where an object was to be made
abbrev pub mkdir_of : Arms (Option (List ℕ) × (Option Attr × Wcc)) Wcc → DirKept
mkdir_of (Done v) = kept.MkDir v.0 v.1.0 v.1.1
mkdir_of (Failure status wcc) = kept.MkDirFail (record { 0 = status }) wcc

unfoldable pub mkdir_at : List ℕ → Result DirKept XdrFault
mkdir_at results = new_object_at results >>= λ v. Ok (mkdir_of v)
