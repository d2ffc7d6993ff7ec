-- CREATE (RFC 1813, section 3.3.8).
use Rattle.std.specs.Prelude.{ℕ, List, Option, Result, Ok}
use Rattle.xdr_codec.specs.declared.reader.XdrFault.{XdrFault}
use Rattle.xdr_codec.specs.Reading.{◌>>=◌}
use Rattle.xdr_codec.specs.Whole.{whole_at}
use Rattle.xdr_codec.specs.Arms.{Arms, Done, Failure}
use Rattle.nfs_types.specs.declared.attr.Attr.{Attr}
use Rattle.nfs_types.specs.declared.wcc.Wcc.{Wcc}
use Rattle.nfs_dir_calls.specs.Makings.{making_at}
use Rattle.nfs_dir_calls.specs.declared.call.DirCall.{DirCall}
use Rattle.nfs_dir_calls.specs.declared.call.DirCall.TheVariants as calls
use Rattle.nfs_dir_calls.specs.declared.keeping.DirKept.{DirKept}
use Rattle.nfs_dir_calls.specs.declared.keeping.DirKept.TheVariants as kept
use Rattle.nfs_dir_calls.specs.Pairs.{◌▸◌}
use Rattle.nfs_dir_calls.specs.Places.{place_at}
use Rattle.nfs_dir_calls.specs.NewObjects.{new_object_at}

-- the arguments: a place, and how to make the file
unfoldable pub create_call_at : List ℕ → Result DirCall XdrFault
create_call_at args = whole_at (place_at ▸ making_at) args >>= λ v. Ok (calls.Create v.0.dir v.0.name v.1)

-- the results: what is answered where an object was to be made
abbrev pub create_of : Arms (Option (List ℕ) × (Option Attr × Wcc)) Wcc → DirKept
create_of (Done v) = kept.Create v.0 v.1.0 v.1.1
create_of (Failure status wcc) = kept.CreateFail (record { 0 = status }) wcc

unfoldable pub create_at : List ℕ → Result DirKept XdrFault
create_at results = new_object_at results >>= λ v. Ok (create_of v)
