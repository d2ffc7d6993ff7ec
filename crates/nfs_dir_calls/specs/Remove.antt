-- REMOVE and RMDIR (RFC 1813, sections 3.3.12 and 3.3.13): the name of a directory is removed by RMDIR, any other by
-- REMOVE.
use Rattle.std.specs.Prelude.{ℕ, List, Result, Ok}
use Rattle.xdr_codec.specs.declared.reader.XdrFault.{XdrFault}
use Rattle.xdr_codec.specs.Reading.{◌>>=◌}
use Rattle.xdr_codec.specs.Whole.{whole_at}
use Rattle.xdr_codec.specs.Arms.{Arms, Done, Failure}
use Rattle.nfs_types.specs.declared.wcc.Wcc.{Wcc}
use Rattle.nfs_dir_calls.specs.declared.call.DirCall.{DirCall}
use Rattle.nfs_dir_calls.specs.declared.call.DirCall.TheVariants as calls
use Rattle.nfs_dir_calls.specs.declared.keeping.DirKept.{DirKept}
use Rattle.nfs_dir_calls.specs.declared.keeping.DirKept.TheVariants as kept
use Rattle.nfs_dir_calls.specs.Places.{place_at}
use Rattle.nfs_dir_calls.specs.Changed.{changed_at}

-- the arguments: a place
unfoldable pub remove_call_at : List ℕ → Result DirCall XdrFault
remove_call_at args = whole_at place_at args >>= λ v. Ok (calls.Remove v.dir v.name)

unfoldable pub rmdir_call_at : List ℕ → Result DirCall XdrFault
rmdir_call_at args = whole_at place_at args >>= λ v. Ok (calls.RmDir v.dir v.name)

-- the results: the directory before and after
abbrev pub remove_of : Arms Wcc Wcc → DirKept
remove_of (Done wcc) = kept.Remove wcc
remove_of (Failure status wcc) = kept.RemoveFail (record { 0 = status }) wcc

unfoldable pub remove_at : List ℕ → Result DirKept XdrFault
remove_at results = changed_at results >>= λ v. Ok (remove_of v)

abbrev pub rmdir_of : Arms Wcc Wcc → DirKept
rmdir_of (Done wcc) = kept.RmDir wcc
rmdir_of (Failure status wcc) = kept.RmDirFail (record { 0 = status }) wcc

unfoldable pub rmdir_at : List ℕ → Result DirKept XdrFault
rmdir_at results = changed_at results >>= λ v. Ok (rmdir_of v)
