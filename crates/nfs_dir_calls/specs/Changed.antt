-- What is answered to REMOVE and RMDIR (RFC 1813, sections 3.3.12 and 3.3.13): at any status the directory before and
-- after.
use Rattle.std.specs.Prelude.{ℕ, List, ◌++◌, Result}
use Rattle.xdr_codec.specs.declared.reader.XdrFault.{XdrFault}
use Rattle.xdr_codec.specs.Whole.{whole_at}
use Rattle.xdr_codec.specs.Spelling.{u32_bytes}
use Rattle.xdr_codec.specs.Arms.{Arms, Done, Failure, arms_at}
use Rattle.nfs_types.specs.declared.wcc.Wcc.{Wcc}
use Rattle.nfs_types.specs.Fields.{wcc_at, wcc_bytes}
use Rattle.nfs_dir_calls.specs.declared.changed.Changed.{Changed}
use Rattle.nfs_dir_calls.specs.declared.changed.Changed.TheVariants as changes

unfoldable pub changed_at : List ℕ → Result (Arms Wcc Wcc) XdrFault
changed_at results = whole_at (arms_at wcc_at wcc_at) results

abbrev pub arms_of_changed : Changed → Arms Wcc Wcc
arms_of_changed (changes.Done wcc) = Done wcc
arms_of_changed (changes.Failed status wcc) = Failure status.0 wcc

unfoldable pub changed_bytes : Wcc → List ℕ
changed_bytes wcc = u32_bytes 0 ++ wcc_bytes wcc
